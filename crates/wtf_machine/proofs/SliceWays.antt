-- What each way out of a call on slices comes to, and of a call that makes a file of others.
use Rattle.std.proofs.Common.{◌≡◌, ℕ, ◌+◌, ◌≤◌, ◌<◌, List, length, Some, Ok, Err, IsTrue, false, inl, inr, refl, sym, ap, ◌∙◌}
use Rattle.std.proofs.lemmas.Bool.{cases_lt, false≢true}
use Rattle.std.specs.FinMap.{FinMap, get, insert}
use Rattle.std.specs.Ordering.{nat_cmp}
use Rattle.wtf_model.specs.declared.answer.Answer.TheVariants as answer
use Rattle.wtf_model.specs.declared.answer.Word.{Word}
use Rattle.wtf_model.specs.declared.answer.Word.TheVariants.{TooBig, Range}
use Rattle.wtf_model.specs.declared.op.Op.TheVariants as op
use Rattle.wtf_model.specs.Tree.{target, source, sources}
use Rattle.wtf_model.specs.Session.{Session, Handle}
use Rattle.wtf_model.specs.Done.{Done, bytes_of_handle, part, add_file}
use Rattle.wtf_model.specs.Call.{call}
use Rattle.wtf_model.specs.Examples.{unchanged}
use Rattle.wtf_model.proofs.SliceLaws.{
  yank-open,
  peek-past,
  peek-part,
  cut-past,
  cut-part,
  paste-write,
  glue-append,
  concat-by,
  concat-fits,
  concat-big,
  copy-by,
}

-- what is not within ends behind the end
outside : (m n : ℕ) → (m ≤ n → IsTrue false) → n < m
outside m n not = elim (cases_lt n m) [ inl past ↦ past | inr within ↦ absurd (false≢true (not within)) ]

module _ (cap : ℕ) (s : Session) where
  -- a slice out of a file: its bytes, and the handle behind them
  pub yank-made : (f n label : ℕ) {h : Handle} {whole bytes path items : List ℕ} {handles : FinMap nat_cmp Handle} {slices : FinMap nat_cmp (List ℕ)}
      → get s.handles f ≡ Some h → whole ≡ bytes_of_handle s h → bytes ≡ part h.off n whole → items ≡ bytes → path ≡ h.path
      → handles ≡ insert s.handles f (record { path = path; off = h.off + length bytes }) → slices ≡ insert s.slices label items
      → call cap s (op.Yank f n label) ≡ record {
        session = record { tree = s.tree; handles = handles; slices = slices };
        answer = answer.Len (length bytes);
      }
  yank-made f n label {h} e whole_is bytes_is items_are path_is handles_are slices_are = let open_is = yank-open cap s f n label h e in cc

  -- a part of a slice, where there is no such part and where there is one
  pub peek-outside : (label off n : ℕ) {items bytes : List ℕ} → get s.slices label ≡ Some items → bytes ≡ items → (off + n ≤ length bytes → IsTrue false)
      → call cap s (op.Peek label off n) ≡ unchanged s (answer.Refused Range)
  peek-outside label off n {items} {bytes} e same not = peek-past cap s label off n bytes (e ∙ ap Some (sym same)) (outside (off + n) (length bytes) not)

  pub peek-inside : (label off n : ℕ) {items bytes cut shown : List ℕ} → get s.slices label ≡ Some items → bytes ≡ items → off + n ≤ length bytes
      → cut ≡ part off n bytes → shown ≡ cut → call cap s (op.Peek label off n) ≡ unchanged s (answer.Shown shown)
  peek-inside label off n {items} {bytes} {cut} e same within is shown_is =
      peek-part cap s label off n bytes (e ∙ ap Some (sym same)) within ∙ ap (λ x. unchanged s (answer.Shown x)) (sym (shown_is ∙ is))

  pub cut-outside : (label off n made : ℕ) {items bytes : List ℕ} → get s.slices label ≡ Some items → bytes ≡ items → (off + n ≤ length bytes → IsTrue false)
      → call cap s (op.Cut label off n made) ≡ unchanged s (answer.Refused Range)
  cut-outside label off n made {items} {bytes} e same not =
      cut-past cap s label off n made bytes (e ∙ ap Some (sym same)) (outside (off + n) (length bytes) not)

  pub cut-inside : (label off n made : ℕ) {items bytes cut held : List ℕ} {slices : FinMap nat_cmp (List ℕ)} → get s.slices label ≡ Some items → bytes ≡ items
      → off + n ≤ length bytes
      → cut ≡ part off n bytes → held ≡ cut → slices ≡ insert s.slices made held
      → call cap s (op.Cut label off n made) ≡ record { session = record { tree = s.tree; handles = s.handles; slices = slices }; answer = answer.Okay }
  cut-inside label off n made {items} {bytes} {cut} {held} {slices} e same within is held_is slices_are =
      let part_is = cut-part cap s label off n made bytes (e ∙ ap Some (sym same)) within in cc

  -- a slice over a file or behind it, by the write or the append of its bytes
  pub paste-by : (f label : ℕ) {h : Handle} {items bytes : List ℕ} {d : Done} → get s.handles f ≡ Some h → get s.slices label ≡ Some items → bytes ≡ items
      → call cap s (op.Write f bytes) ≡ d → call cap s (op.Paste f label) ≡ d
  paste-by f label {h} {items} {bytes} {d} e there same wrote =
      paste-write cap s f label h items e there ∙ ap (λ x. call cap s (op.Write f x)) (sym same) ∙ wrote

  pub glue-by : (f label : ℕ) {h : Handle} {items bytes : List ℕ} {d : Done} → get s.handles f ≡ Some h → get s.slices label ≡ Some items → bytes ≡ items
      → call cap s (op.Append f bytes) ≡ d → call cap s (op.Glue f label) ≡ d
  glue-by f label {h} {items} {bytes} {d} e there same added =
      glue-append cap s f label h items e there ∙ ap (λ x. call cap s (op.Append f x)) (sym same) ∙ added

  -- a file of others: a target that is refused, a source that is, bytes that are too many, and a file that is made
  pub concat-no_target : (q : List ℕ) (paths : List (List ℕ)) {w : Word} → target s.tree q ≡ Err w
      → call cap s (op.Concat q paths) ≡ unchanged s (answer.Refused w)
  concat-no_target q paths {w} e = concat-by cap s q paths (Err w) (sources s.tree paths) e refl

  pub concat-no_source : (q : List ℕ) (paths : List (List ℕ)) {w : Word} {listed : List (List ℕ)} → target s.tree q ≡ Ok tt → listed ≡ paths
      → sources s.tree listed ≡ Err w
      → call cap s (op.Concat q paths) ≡ unchanged s (answer.Refused w)
  concat-no_source q paths {w} e same none = concat-by cap s q paths (Ok tt) (Err w) e (ap (sources s.tree) (sym same) ∙ none)

  pub concat-long : (q : List ℕ) (paths : List (List ℕ)) {bytes : List ℕ} {listed : List (List ℕ)} → target s.tree q ≡ Ok tt → listed ≡ paths
      → sources s.tree listed ≡ Ok bytes
      → cap < length bytes → call cap s (op.Concat q paths) ≡ unchanged s (answer.Refused TooBig)
  concat-long q paths {bytes} e same is past = concat-big cap s q paths bytes e (ap (sources s.tree) (sym same) ∙ is) past

  pub concat-made : (q : List ℕ) (paths : List (List ℕ)) {p bytes : List ℕ} {listed : List (List ℕ)} {new : Session} → target s.tree q ≡ Ok tt → listed ≡ paths
      → sources s.tree listed ≡ Ok bytes → length bytes ≤ cap → p ≡ q → new ≡ add_file s p bytes
      → call cap s (op.Concat q paths) ≡ record { session = new; answer = answer.Okay }
  concat-made q paths {p} {bytes} {listed} {new} e same is fit path_is new_is =
      let made = concat-fits cap s q paths bytes e (ap (sources s.tree) (sym same) ∙ is) fit in cc

  -- a file with the bytes of another
  pub copy-no_source : (p q : List ℕ) {w : Word} → source s.tree p ≡ Err w → call cap s (op.Copy p q) ≡ unchanged s (answer.Refused w)
  copy-no_source p q {w} none = copy-by cap s p q (Err w) (target s.tree q) none refl

  pub copy-no_target : (p q : List ℕ) {w : Word} {bytes : List ℕ} → source s.tree p ≡ Ok bytes → target s.tree q ≡ Err w
      → call cap s (op.Copy p q) ≡ unchanged s (answer.Refused w)
  copy-no_target p q {w} {bytes} is e = copy-by cap s p q (Ok bytes) (Err w) is e

  pub copy-made : (p q : List ℕ) {bytes held r : List ℕ} {new : Session} → source s.tree p ≡ Ok bytes → target s.tree q ≡ Ok tt → held ≡ bytes → r ≡ q
      → new ≡ add_file s r held → call cap s (op.Copy p q) ≡ record { session = new; answer = answer.Okay }
  copy-made p q {bytes} {held} {r} {new} is e held_is same new_is = let made = copy-by cap s p q (Ok bytes) (Ok tt) is e in cc
