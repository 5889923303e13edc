-- Installs, by an attempt or by a whole replay.
use Rattle.std.proofs.Common.{◌≡◌, ℕ, length, take, List, sym, ap, ◌∙◌, subst}
use Rattle.std.proofs.Math.Seq.{take-length}
use Rattle.wtf_kv.specs.Stores.{Store}
use Rattle.wtf_occ.specs.Tries.{IsInstalled}
use Rattle.wtf_model.specs.declared.op.Op.{Op}
use Rattle.wtf_model.specs.Tree.{Tree}
use Rattle.wtf_values.specs.declared.key.Key.{Key}
use Rattle.wtf_values.specs.declared.value.Value.{Value}
use Rattle.wtf_values.specs.Keys.{key_cmp}
use Rattle.wtf_values.specs.Outcomes.{outcome_of}
use Rattle.wtf_log.proofs.StandingLaws.{OpsStandFor-length}
use Rattle.wtf_meta.specs.Maps.{with, metadata_at}
use Rattle.wtf_meta.specs.Contents.{Told}
use Rattle.wtf_meta.specs.Trees.{Stands}
use Rattle.wtf_meta.specs.Calls.{Ran, IsRun}
use Rattle.wtf_replay.specs.Views.{TxnView}
use Rattle.wtf_replay.specs.Fits.{IsLog}
use Rattle.wtf_replay.specs.Sounds.{tells_slice, caller_at, did_by, first_of, LogStands}
use Rattle.wtf_replay.specs.Tried.{IsFinal}

module _ (size : ℕ) (kv : Store Key Value) (told : Told) (x : TxnView) (ops : List (Op (List ℕ))) (sound : LogStands size kv told x ops) where
  -- all calls are done
  all_done : IsLog x.log → x.replayed ≡ length x.log.ops → first_of x ops x.replayed ≡ (ops, x.log.shown)
  all_done log live =
      let same : length x.log.ops ≡ length ops = OpsStandFor-length (tells_slice told) x.log.ops ops sound.ops_are in
      ap (λ l. (l, take x.replayed x.log.shown)) (ap (λ n. take n ops) (live ∙ same) ∙ take-length ops)
      ∙ ap (λ l. (ops, l)) (ap (λ n. take n x.log.shown) (live ∙ sym log.answers) ∙ take-length x.log.shown)

  -- what was installed is a commit by its meaning
  pub final_from : (after : Store Key Value) (n : ℕ) → IsLog x.log → x.replayed ≡ length x.log.ops → IsInstalled key_cmp outcome_of x.at kv after n
      → IsFinal size told kv after x ops n
  final_from after n log live installed = record {
    at = x.at;
    session = x.session;
    facts = sound.facts;
    stored = sound.stored;
    lists = sound.lists;
    told_are = sound.told_are;
    lists_are = sound.lists_are;
    run = subst (λ c. IsRun (caller_at size x.tx 0) (metadata_at kv x.at.base) x.session (did_by x.at sound.facts sound.stored sound.lists) c)
        (all_done log live) sound.run;
    agree = installed.agree;
    fits = installed.fits;
    next = installed.next;
    number = installed.number;
    map = installed.map;
    versions = installed.versions;
  }

-- so on each tree for which the map now stands, the calls are the definitions' run
pub final_ran : (size : ℕ) (told : Told) (kv after : Store Key Value) (x : TxnView) (ops : List (Op (List ℕ))) (n : ℕ) (f : IsFinal size told kv after x ops n)
    (t : Tree) → Stands size told x.tx 0 (metadata_at kv kv.number) t
    → Ran (caller_at size x.tx 0) told (metadata_at kv kv.number) (with f.at.changes (metadata_at kv kv.number)) f.session t (ops, x.log.shown)
final_ran size told kv after x ops n f t st = f.run.acts told (metadata_at kv kv.number) t f.agree f.fits f.told_are f.lists_are st
