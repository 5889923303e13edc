-- How an attempt goes on: keys first, and then changes.
use Rattle.std.proofs.Common.{◌≡◌, List, [], ◌∷◌, ◌++◌, ap, ◌∙◌, append-nil}
use Rattle.wtf_kv.specs.declared.changes.Change.{Change}
use Rattle.wtf_kv.specs.Stores.{Store}
use Rattle.wtf_occ.specs.Attempts.{Attempted, GrowsBy}
use Rattle.wtf_occ.proofs.AttemptLaws.{GrowsBy-append, map_seen-by}
use Rattle.wtf_values.specs.declared.key.Key.{Key}
use Rattle.wtf_values.specs.declared.value.Value.{Value}
use Rattle.wtf_values.specs.declared.value.Delta.{Delta}
use Rattle.wtf_values.specs.Keys.{key_cmp}
use Rattle.wtf_values.specs.Outcomes.{outcome_of}
use Rattle.wtf_meta.specs.Maps.{Edits, seen}

-- one change, and then others
pub edit_then : (a b c : Attempted Key Delta) (e : Change Key Delta) (es : Edits) → GrowsBy a b [] (e ∷ []) → GrowsBy b c [] es → GrowsBy a c [] (e ∷ es)
edit_then a b c e es first then = GrowsBy-append a b c [] [] (e ∷ []) es first then

-- keys, and then changes
pub keys_then : (a b c : Attempted Key Delta) (qs : List Key) (es : Edits) → GrowsBy a b qs [] → GrowsBy b c [] es → GrowsBy a c qs es
keys_then a b c qs es first then = record {
  base = then.base ∙ first.base;
  reads = then.reads ∙ append-nil b.reads ∙ first.reads;
  changes = then.changes ∙ ap (λ l. l ++ es) (first.changes ∙ append-nil a.changes);
}

-- keys, and then others
pub keys_more : (a b c : Attempted Key Delta) (qs rs : List Key) → GrowsBy a b qs [] → GrowsBy b c rs [] → GrowsBy a c (qs ++ rs) []
keys_more a b c qs rs first then = GrowsBy-append a b c qs rs [] [] first then

-- what is recorded changes nothing that is seen
pub seen-same : (kv : Store Key Value) (old new : Attempted Key Delta) (qs : List Key) → GrowsBy old new qs [] → seen kv new ≡ seen kv old
seen-same kv old new qs went = map_seen-by key_cmp outcome_of kv old new qs [] went
