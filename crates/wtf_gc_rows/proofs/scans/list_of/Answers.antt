use Rattle.std.proofs.Common.{◌≡◌, ℕ, List, [], ◌∷◌, ◌++◌, sym, ap, ◌∙◌, subst}
use Rattle.std.specs.List.{All}
use Rattle.std.proofs.lemmas.List.Elements.{All-nil, All-cons}
use Rattle.wtf_base.specs.Slices.{len_of}
use Rattle.wtf_overlay.specs.declared.part.Entry.{Entry}
use Rattle.wtf_meta.specs.Bytes.{PartBytes, EntryBytes}
use Rattle.wtf_gc_rows.proofs.scans.list_of.Goals as goal

pub returns-clause-lies : goal.returns-clause-lies
returns-clause-lies c P bytes =
    let e : Entry = c.of.result in
    let here : EntryBytes P e =
    subst (λ (n : ℕ). PartBytes P n e.part) (sym (c.of.ensures.len ∙ c.len-len.ensures.value))
    (subst (PartBytes P (len_of c.args.slice)) (sym c.of.ensures.part) bytes) in
    let is : c.push.new.self ≡ e ∷ [] = c.in_ok-push.ensures.ok ∙ ap (λ (l : List Entry). l ++ e ∷ []) c.in_ok-list.ensures in
    subst (All (EntryBytes P)) (sym is) (All-cons (EntryBytes P) e [] here (All-nil (EntryBytes P)))
