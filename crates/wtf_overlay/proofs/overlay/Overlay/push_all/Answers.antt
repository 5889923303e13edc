use Rattle.std.proofs.Common.{◌≡◌, ◌++◌, [], ◌∷◌, List, get_or, take, ap, sym, ◌∙◌, arith}
use Rattle.std.proofs.lemmas.List.{append_assoc, take_more}
use Rattle.std.proofs.lemmas.Option.{get_or_from_slice_get}
use Rattle.wtf_overlay.specs.declared.part.Entry.{Entry}
use Rattle.wtf_overlay.proofs.overlay.Overlay.push_all.Goals as goal

pub loop-i-preserved : goal.loop-i-preserved
loop-i-preserved c =
    let e = c.get-e.result in
    let old = c.args.self.now in
    let es = c.args.top.now in
    let i = c.loop-i.i in
    let at : get_or es i e ≡ e = get_or_from_slice_get es i e e c.get-e.ensures in
    c.in_ok-push.ensures.ok ∙ ap (λ (l : List Entry). l ++ e ∷ []) c.loop-i.invariant
    ∙ append_assoc old (take i es) (e ∷ [])
    ∙ ap (λ (l : List Entry). old ++ l) (ap (λ (f : Entry). take i es ++ f ∷ []) (sym at) ∙ sym (take_more es i e (omega arith)))
