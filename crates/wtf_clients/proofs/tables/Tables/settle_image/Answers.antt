use Rattle.wtf_clients.proofs.Common.{times_pinned, TablesView, all_kept, with_image, only_image, HasImage, Saves, ◌≡◌, ◌≤◌, ◌+◌, ◌-◌, ℕ, nat_eq, count_by}
use Rattle.wtf_clients.proofs.Common.{List, length, refl, sym, ap, ◌∙◌, subst, arith}
use Rattle.wtf_clients.proofs.{Pinning.count_front, Pinning.others_are, Pinning.settles_one, Soundness.settled_sound, Lives.tables_of}
use Rattle.wtf_clients.proofs.tables.Tables.settle_image.Goals as goal

pub unpin_all-requires : goal.unpin_all-requires
unpin_all-requires c = λ n.
    let at = c.self.inside in
    let all = subst (λ (t : TablesView). all_kept n t.beside ≤ times_pinned t.kv n) (sym c.self.view_is) (c.requires.pinned n) in
    let front = count_front n (length at.beside.images - 1) at.beside.images in
    let same : count_by (nat_eq n) c.others.result.now ≡ _ = ap (count_by (nat_eq n)) c.others.ensures in
    omega (arith, all, front, same)

pub returns : goal.returns
returns c = λ before was.
    let old = tables_of c.self.inside in
    let new : TablesView = record old { kv = c.unpin_all.new.kv; beside = c.settle.new.self } in
    let is : old.beside ≡ with_image before old.kv.number = subst (λ (t : TablesView). t.beside ≡ with_image before t.kv.number) (sym c.self.view_is) was in
    subst (λ (t : TablesView). Saves t new (only_image before t.kv.number)) c.self.view_is (settles_one old new refl refl c.unpin_all.ensures.rest before is
    (λ n. ap (λ (l : List ℕ). times_pinned c.unpin_all.new.kv n + count_by (nat_eq n) l)
    (sym (c.others.ensures ∙ others_are old.beside before old.kv.number is))
    ∙ c.unpin_all.ensures.pins n)
    (c.settle.ensures ∙ ap (only_image old.beside) c.number-number.ensures.number ∙ ap (λ b. only_image b old.kv.number) is))

pub invariant_of-self : goal.invariant_of-self
invariant_of-self c =
    let old = tables_of c.self.inside in
    let new : TablesView = record old { kv = c.unpin_all.new.kv; beside = c.settle.new.self } in
    let last : HasImage old = subst HasImage (sym c.self.view_is) c.requires.last in
    let before = last.0 in
    let is : old.beside ≡ with_image before old.kv.number = last.1 in
    settled_sound old new before c.self.invariant is (settles_one old new refl refl c.unpin_all.ensures.rest before is
    (λ n. ap (λ (l : List ℕ). times_pinned c.unpin_all.new.kv n + count_by (nat_eq n) l)
    (sym (c.others.ensures ∙ others_are old.beside before old.kv.number is))
    ∙ c.unpin_all.ensures.pins n)
    (c.settle.ensures ∙ ap (only_image old.beside) c.number-number.ensures.number ∙ ap (λ b. only_image b old.kv.number) is))
