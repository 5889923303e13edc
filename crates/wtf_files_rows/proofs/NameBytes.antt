-- A call on names brings no byte.
use Rattle.std.proofs.Common.{◌≡◌, ℕ, Bool, true, List, [], sym, subst}
use Rattle.wtf_base.specs.declared.slice.Slice.{Slice}
use Rattle.wtf_kv.specs.Stores.{Store}
use Rattle.wtf_occ.specs.Attempts.{Attempted}
use Rattle.wtf_occ.proofs.AttemptLaws.{map_seen-by}
use Rattle.wtf_overlay.specs.Origin.{Place}
use Rattle.wtf_model.specs.declared.answer.Answer.{Answer}
use Rattle.wtf_model.specs.declared.op.Op.{Op}
use Rattle.wtf_values.specs.declared.key.Key.{Key}
use Rattle.wtf_values.specs.declared.value.Delta.{Delta}
use Rattle.wtf_values.specs.declared.value.Value.{Value}
use Rattle.wtf_values.specs.Keys.{key_cmp}
use Rattle.wtf_values.specs.Outcomes.{outcome_of}
use Rattle.wtf_meta.specs.Bytes.{MapBytes}
use Rattle.wtf_meta.specs.Calls.{Caller, IsNameStep, IsFreeToMove}
use Rattle.wtf_meta.specs.Maps.{Map, seen}
use Rattle.wtf_meta.specs.Sessions.{nothing_open}
use Rattle.wtf_meta.proofs.MapBytes.{with_bytes}
use Rattle.wtf_meta.proofs.Named.{PiecesBytes-none}
use Rattle.wtf_meta.proofs.Nothing.{nothing_kept}

pub name_bytes : (x : Caller) (kv : Store Key Value) (old new : Attempted Key Delta) (o : Op (List ℕ)) (a : Answer) → IsNameStep x (seen kv old) old new o a
    → IsFreeToMove o nothing_open
    → (P : List Place → Bool) (Q : Slice → Bool) → P [] ≡ true → MapBytes P Q (seen kv old) → MapBytes P Q (seen kv new)
name_bytes x kv old new o a step free P Q hole map =
    let names = (step.is_call nothing_open free).names P Q hole map (nothing_kept P) (PiecesBytes-none P) tt in
    subst (λ (w : Map). MapBytes P Q w) (sym (map_seen-by key_cmp outcome_of kv old new step.keys step.edits step.grows))
    (with_bytes P Q hole step.edits (seen kv old) map names.edits)
