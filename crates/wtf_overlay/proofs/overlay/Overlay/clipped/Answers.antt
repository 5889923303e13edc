use Rattle.std.proofs.Common.{◌≡◌, ◌++◌, ◌+◌, [], ◌∷◌, List, get_or, take, ap, sym, ◌∙◌, arith}
use Rattle.std.proofs.lemmas.List.{append-nil}
use Rattle.std.proofs.lemmas.Option.{get_or_from_slice_get}
use Rattle.wtf_overlay.specs.declared.part.Entry.{Entry}
use Rattle.wtf_overlay.specs.Clips.{clip_list, clip_entry}
use Rattle.wtf_overlay.proofs.Clipping.{clip_list_more, clip_entry_none}
use Rattle.wtf_overlay.proofs.overlay.Overlay.clipped.Goals as goal
use Rattle.wtf_overlay.proofs.overlay.Overlay.clipped.Goals.{then-e-end+in_ok-push, else-e-end}

pub loop-i-preserved : goal.loop-i-preserved
loop-i-preserved c =
    let e = c.get-e.result in
    let es = c.args.self.now in
    let end = c.args.end in
    let so_far = clip_list end (take c.loop-i.i es) in
    let at : get_or es c.loop-i.i e ≡ e = get_or_from_slice_get es c.loop-i.i e e c.get-e.ensures in
    let more : clip_list end (take (c.loop-i.i + 1) es) ≡ so_far ++ clip_entry end e = clip_list_more end es c.loop-i.i e (omega arith) at in
    elim c.if-e-end.branch [
      | then-e-end+in_ok-push w ↦ w.out-is ∙ w.in_ok-push.ensures.ok ∙ ap (λ (l : List Entry). l ++ w.front.result ∷ []) c.loop-i.invariant
          ∙ ap (λ (l : List Entry). so_far ++ l) (sym w.front.ensures) ∙ sym more
      | else-e-end w ↦ w.out-is ∙ c.loop-i.invariant ∙ sym (append-nil so_far)
          ∙ ap (λ (l : List Entry). so_far ++ l) (sym (clip_entry_none end e (omega arith))) ∙ sym more
    ]
