use Rattle.std.proofs.Common.{◌≡◌, ◌++◌, Bool, true, List, [], ◌∷◌, Some, refl, sym, subst}
use Rattle.std.proofs.lemmas.List.{append-nil}
use Rattle.wtf_base.specs.declared.slice.Slice.{Slice}
use Rattle.wtf_kv.specs.Stores.{Store}
use Rattle.wtf_kv.specs.declared.changes.Change.TheVariants as change
use Rattle.wtf_occ.specs.Attempts.{Attempted, GrowsBy}
use Rattle.wtf_occ.proofs.AttemptLaws.{map_seen-by}
use Rattle.wtf_overlay.specs.Origin.{Place}
use Rattle.wtf_values.specs.declared.key.Key.{Key}
use Rattle.wtf_values.specs.declared.value.Delta.{Delta}
use Rattle.wtf_values.specs.declared.value.Delta.TheVariants as delta
use Rattle.wtf_values.specs.declared.value.Value.{Value}
use Rattle.wtf_values.specs.Keys.{key_cmp}
use Rattle.wtf_values.specs.Outcomes.{outcome_of}
use Rattle.wtf_meta.specs.Bytes.{MapBytes, ValueBytes}
use Rattle.wtf_meta.specs.Maps.{Map, seen}
use Rattle.wtf_meta.proofs.MapBytes.{with_bytes}
use Rattle.wtf_files_rows.proofs.store.tree_made.Goals as goal

-- a value that is put brings no byte but its own
put_bytes : (kv : Store Key Value) (old new : Attempted Key Delta) (k : Key) (v : Value)
    → new ≡ record old { changes = old.changes ++ change.Delta k (delta.Put v) ∷ [] }
    → (P : List Place → Bool) (Q : Slice → Bool) → P [] ≡ true → ValueBytes P Q (Some v) → MapBytes P Q (seen kv old) → MapBytes P Q (seen kv new)
put_bytes kv old new k v is P Q hole here map =
    let cs = change.Delta k (delta.Put v) ∷ [] in
    let grows : GrowsBy old new [] cs = subst (λ (a : Attempted Key Delta). GrowsBy old a [] cs) (sym is)
    (record { base = refl; reads = sym (append-nil old.reads); changes = refl }) in
    subst (λ (w : Map). MapBytes P Q w) (sym (map_seen-by key_cmp outcome_of kv old new [] cs grows)) (with_bytes P Q hole cs (seen kv old) map (here, tt))

pub returns : goal.returns
returns c = λ kv bare P Q hole.
    put_bytes kv c.delta-4.new.self c.delta-5.new.self _ _ c.in_ok-delta-5.ensures.ok P Q hole tt
    (put_bytes kv c.delta-3.new.self c.delta-4.new.self _ _ c.in_ok-delta-4.ensures.ok P Q hole tt
    (put_bytes kv c.delta-2.new.self c.delta-3.new.self _ _ c.in_ok-delta-3.ensures.ok P Q hole tt
    (put_bytes kv c.delta.new.self c.delta-2.new.self _ _ c.in_ok-delta-2.ensures.ok P Q hole tt
    (put_bytes kv c.args.at.now c.delta.new.self _ _ c.in_ok-delta.ensures.ok P Q hole tt (bare P Q hole)))))
