-- Files that are put together: on every map that agrees on the recorded keys they are the same, with the same bytes.
use Rattle.std.proofs.Common.{◌≡◌, ℕ, zero, suc, ◌+◌, ◌*◌, ◌/◌, ◌%◌, ◌<◌, ◌≤◌, List, [], ◌∷◌, ◌++◌, length, append_assoc, append-nil, Result, Ok, Err, refl}
use Rattle.std.proofs.Common.{sym, ap, ◌∙◌, subst, arith, inl, inr, zero-add}
use Rattle.std.proofs.lemmas.Bool.{cases_eq}
use Rattle.std.proofs.lemmas.List.{length-append}
use Rattle.std.proofs.lemmas.Nat.{div_below}
use Rattle.wtf_base.specs.declared.ids.InodeId.{InodeId}
use Rattle.wtf_kv.specs.Edits.{Agree}
use Rattle.wtf_kv.proofs.EditLaws.{Agree-parts}
use Rattle.wtf_overlay.specs.Origin.{Plans, pieces_len}
use Rattle.wtf_overlay.proofs.Pieces.{pieces_len-append}
use Rattle.wtf_overlay.specs.declared.part.Piece.{Piece}
use Rattle.wtf_model.specs.declared.answer.Word.{Word}
use Rattle.wtf_model.specs.Tree.{Tree, ◌>>=◌, bytes_of, sources}
use Rattle.wtf_meta.specs.Lists.{Lists, ListFact}
use Rattle.wtf_meta.specs.Maps.{Map}
use Rattle.wtf_meta.specs.Bytes.{PiecesBytes}
use Rattle.wtf_meta.specs.Contents.{Told, PiecesTell, lists_in}
use Rattle.wtf_meta.specs.Reads.{ReadsFile}
use Rattle.wtf_meta.specs.Files.{FileView, IsFile, file_len, file_origin, region_origin}
use Rattle.wtf_meta.specs.FileEdits.{file_of}
use Rattle.wtf_meta.specs.Appends.{AgreeOn, region_keys, count_from}
use Rattle.wtf_meta.specs.Trees.{IsBody, Stands}
use Rattle.wtf_meta.proofs.ListFacts.{TellLists-parts, ListSlices-append, ListsBytes-parts}
use Rattle.wtf_meta.proofs.Named.{PiecesBytes-none, PiecesBytes-append, file_bytes}
use Rattle.wtf_meta.proofs.Reading.{PiecesTell-none, PiecesTell-append, PiecesTell-file}
use Rattle.wtf_meta.proofs.Standing.{leads-file}
use Rattle.wtf_meta.proofs.Touching.{agree_file, agree_len}
use Rattle.wtf_index.specs.Checks.{source_of}
use Rattle.wtf_index.specs.Recorded.{keys_if}
use Rattle.wtf_index.proofs.Checked.{source-refused, source-leads, source-agrees}
use Rattle.wtf_slicing.specs.Recorded.{whole_keys, file_keys, files_keys, sources_keys}
use Rattle.wtf_slicing.specs.Sources.{sources_of, lens_of, ArePlans, ReadsFiles}

-- a file that agrees on its last region's number and on all regions up to it
count_agrees : (a m r : ℕ) (v w : FileView) → AgreeOn (region_keys (count_from a m)) v w → a ≤ r → r < a + m → v.region r ≡ w.region r
count_agrees a zero r v w h low high = absurd (omega arith)
count_agrees a (suc m) r v w h low high = elim (cases_eq a r) [
  | inl e ↦ subst (λ (k : ℕ). v.region k ≡ w.region k) e h.0
  | inr differ ↦ count_agrees (a + 1) m r v w h.1 (omega arith) (omega arith)
]

pub whole_last : (v w : FileView) → AgreeOn (whole_keys v) v w → v.last ≡ w.last
whole_last v w h = h.0

pub whole_region : (v w : FileView) (r : ℕ) → AgreeOn (whole_keys v) v w → r ≤ v.last → v.region r ≡ w.region r
whole_region v w r h below = count_agrees 0 (v.last + 1) r v w h.1 (omega arith) (omega arith)

pub whole_len : (b : ℕ) (v w : FileView) → AgreeOn (whole_keys v) v w → file_len b w ≡ file_len b v
whole_len b v w h = agree_len b v w (h.0, (whole_region v w v.last h (omega arith), tt))

-- has its bytes at the same places
pub whole_origin : (b : ℕ) (lists : Lists) (x : ℕ) (v w : FileView) → 0 < b → IsFile b w → AgreeOn (whole_keys v) v w → x < file_len b v
    → file_origin b lists v x ≡ file_origin b lists w x
whole_origin b lists x v w pos is h below =
    let len = whole_len b v w h in
    let up : x < (w.last + 1) * b = omega (arith, len, is.ends w.last) in
    let low : x / b < w.last + 1 = div_below x b (w.last + 1) pos up in
    ap (λ o. region_origin lists o (x % b)) (whole_region v w (x / b) h (omega (arith, h.0)))

-- the files of a map have these bytes, one file behind the other
abbrev pub BodiesOf : ℕ → Told → Map → List InodeId → List ℕ → Type 0
BodiesOf b told w [] bytes = bytes ≡ []
BodiesOf b told w (i ∷ is) bytes = (xs : List ℕ) × (ys : List ℕ) × (bytes ≡ xs ++ ys) × IsBody b told w i xs × BodiesOf b told w is ys

-- and so many
pub lens_agree : (b : ℕ) (told : Told) (u w : Map) (is : List InodeId) (bytes : List ℕ) → Agree (files_keys u is) u w → BodiesOf b told w is bytes
    → lens_of b u is ≡ length bytes
lens_agree b told u w [] bytes agree are = ap length (sym are)
lens_agree b told u w (i ∷ is) bytes agree are =
    let parts = Agree-parts (file_keys u i) (files_keys u is) u w agree in
    let here = agree_file i (whole_keys (file_of i u)) u w parts.0 in
    let rest = lens_agree b told u w is are.1 parts.1 are.4 in
    let len = whole_len b (file_of i u) (file_of i w) here in
    omega (arith, rest, len, are.3.bytes_are.len, ap length are.2, length-append are.0 are.1)

-- and pieces that were read of them tell them
pub plans_tell : (b : ℕ) (told : Told) (u w : Map) (is : List InodeId) (ps : List Piece) (bytes : List ℕ) → 0 < b → Agree (files_keys u is) u w
    → BodiesOf b told w is bytes → ArePlans b (lists_in b told) u is ps → PiecesTell told ps bytes
plans_tell b told u w [] ps bytes pos agree are plans =
    subst (λ (qs : List Piece). PiecesTell told qs bytes) (sym plans) (subst (λ (l : List ℕ). PiecesTell told [] l) (sym are) (PiecesTell-none told))
plans_tell b told u w (i ∷ is) ps bytes pos agree are plans =
    let parts = Agree-parts (file_keys u i) (files_keys u is) u w agree in
    let here = agree_file i (whole_keys (file_of i u)) u w parts.0 in
    let v : FileView = file_of i u in
    let own : Plans plans.0 (file_len b v) (file_origin b (lists_in b told) (file_of i w)) = record {
      len = plans.3.len;
      origin = λ x below. plans.3.origin x below ∙ whole_origin b (lists_in b told) x v (file_of i w) pos are.3.file here below;
    } in
    let first : PiecesTell told plans.0 are.0 =
    PiecesTell-file told b (file_of i w) are.0 (file_len b v) plans.0 are.3.bytes_are (sym (whole_len b v (file_of i w) here) ∙ are.3.bytes_are.len) own in
    subst (λ (qs : List Piece). PiecesTell told qs bytes) (sym plans.2)
    (subst (λ (l : List ℕ). PiecesTell told (plans.0 ++ plans.1) l) (sym are.2)
    (PiecesTell-append told plans.0 plans.1 are.0 are.1 first (plans_tell b told u w is plans.1 are.1 pos parts.1 are.4 plans.4)))

-- the paths of files lead to the same inodes
pub sources-agree : (b w : Map) (ps : List (List ℕ)) → Agree (sources_keys b ps) b w → sources_of w ps ≡ sources_of b ps
sources-agree b w [] agree = refl
sources-agree b w (p ∷ ps) agree =
    ap (λ r. r >>= (λ i. sources_of w ps >>= (λ is. Ok (i ∷ is)))) (source-agrees b w p (agree.0, tt))
    ∙ by_source (source_of b p) agree.1 (λ h. sources-agree b w ps h)
  where
    by_source : (r : Result InodeId Word) → Agree (keys_if r (sources_keys b ps)) b w → (Agree (sources_keys b ps) b w → sources_of w ps ≡ sources_of b ps)
        → (r >>= (λ i. sources_of w ps >>= (λ is. Ok (i ∷ is)))) ≡ (r >>= (λ i. sources_of b ps >>= (λ is. Ok (i ∷ is))))
    by_source (Ok i) h next = ap (λ z. z >>= (λ is. Ok (i ∷ is))) (next h)
    by_source (Err word) h next = refl

rest_refused : (i : InodeId) (r : Result (List InodeId) Word) (word : Word) → (r >>= (λ is. Ok (i ∷ is))) ≡ Err word → r ≡ Err word
rest_refused i (Ok is) word e = absurd (cc)
rest_refused i (Err other) word e = cc

-- those that were found after the first one
pub record Rest (i : InodeId) (r : Result (List InodeId) Word) (all : List InodeId) : Type 0 where
  pub inodes : List InodeId
  pub is : r ≡ Ok inodes
  pub whole : i ∷ inodes ≡ all

pub rest_found : (i : InodeId) (r : Result (List InodeId) Word) (all : List InodeId) → (r >>= (λ is. Ok (i ∷ is))) ≡ Ok all → Rest i r all
rest_found i (Ok is) all e = record { inodes = is; is = refl; whole = cc }
rest_found i (Err word) all e = absurd (cc)

-- the definitions' files
pub record Found (b : ℕ) (told : Told) (w : Map) (t : Tree) (ps : List (List ℕ)) (is : List InodeId) : Type 0 where
  pub bytes : List ℕ
  pub sources_are : sources t ps ≡ Ok bytes
  pub bodies : BodiesOf b told w is bytes

module _ (b : ℕ) (told : Told) (tx k : ℕ) (w : Map) (t : Tree) (st : Stands b told tx k w t) where
  refused_by : (p : List ℕ) (ps : List (List ℕ)) (word : Word) (r : Result InodeId Word) → source_of w p ≡ r
      → (r >>= (λ i. sources_of w ps >>= (λ is. Ok (i ∷ is)))) ≡ Err word
      → (sources_of w ps ≡ Err word → sources t ps ≡ Err word) → sources t (p ∷ ps) ≡ Err word
  refused_by p ps word (Ok i) e h next =
      let file = leads-file b told tx k w t st p i (source-leads w p i e) in
      ap (λ o. bytes_of o >>= (λ xs. sources t ps >>= (λ ys. Ok (xs ++ ys)))) file.there
      ∙ ap (λ r. r >>= (λ ys. Ok (file.bytes ++ ys))) (next (rest_refused i (sources_of w ps) word h))
  refused_by p ps word (Err other) e h next =
      let same : other ≡ word = cc in
      ap (λ r. r >>= (λ xs. sources t ps >>= (λ ys. Ok (xs ++ ys)))) (source-refused b told tx k w t st p other e) ∙ ap (λ (z : Word). Err z) same

  pub sources-refused : (ps : List (List ℕ)) (word : Word) → sources_of w ps ≡ Err word → sources t ps ≡ Err word
  sources-refused [] word e = absurd (cc)
  sources-refused (p ∷ ps) word e = refused_by p ps word (source_of w p) refl e (λ h. sources-refused ps word h)

  found_by : (p : List ℕ) (ps : List (List ℕ)) (all : List InodeId) (r : Result InodeId Word) → source_of w p ≡ r
      → (r >>= (λ i. sources_of w ps >>= (λ is. Ok (i ∷ is)))) ≡ Ok all
      → ((is : List InodeId) → sources_of w ps ≡ Ok is → Found b told w t ps is) → Found b told w t (p ∷ ps) all
  found_by p ps all (Ok i) e h next =
      let file = leads-file b told tx k w t st p i (source-leads w p i e) in
      let rest = rest_found i (sources_of w ps) all h in
      let more = next rest.inodes rest.is in
      record {
        bytes = file.bytes ++ more.bytes;
        sources_are = ap (λ o. bytes_of o >>= (λ xs. sources t ps >>= (λ ys. Ok (xs ++ ys)))) file.there
            ∙ ap (λ r. r >>= (λ ys. Ok (file.bytes ++ ys))) more.sources_are;
        bodies = subst (λ (l : List InodeId). BodiesOf b told w l (file.bytes ++ more.bytes)) rest.whole (file.bytes, more.bytes, refl, file.body, more.bodies);
      }
  found_by p ps all (Err word) e h next = absurd (cc)

  pub sources-found : (ps : List (List ℕ)) (all : List InodeId) → sources_of w ps ≡ Ok all → Found b told w t ps all
  sources-found [] all e =
      let none : [] ≡ all = cc in
      record { bytes = []; sources_are = refl; bodies = subst (λ (l : List InodeId). BodiesOf b told w l []) none refl }
  sources-found (p ∷ ps) all e = found_by p ps all (source_of w p) refl e (λ is h. sources-found ps is h)

-- one file more
plans-more : (b : ℕ) (lists : Lists) (u : Map) (is : List InodeId) (i : InodeId) (ps qs : List Piece) → ArePlans b lists u is ps
    → ArePlans b lists u (i ∷ []) qs → ArePlans b lists u (is ++ i ∷ []) (ps ++ qs)
plans-more b lists u [] i ps qs first next = subst (λ (l : List Piece). ArePlans b lists u (i ∷ []) (l ++ qs)) (sym first) next
plans-more b lists u (j ∷ is) i ps qs first next =
    let whole : ps ++ qs ≡ first.0 ++ (first.1 ++ qs) = ap (λ (l : List Piece). l ++ qs) first.2 ∙ append_assoc first.0 first.1 qs in
    (first.0, first.1 ++ qs, whole, first.3, plans-more b lists u is i first.1 qs first.4 next)

one_file : (b : ℕ) (lists : Lists) (u : Map) (i : InodeId) (ps : List Piece)
    → Plans ps (file_len b (file_of i u)) (λ x. file_origin b lists (file_of i u) (0 + x)) → ArePlans b lists u (i ∷ []) ps
one_file b lists u i ps plans =
    let own : Plans ps (file_len b (file_of i u)) (file_origin b lists (file_of i u)) = record {
      len = plans.len;
      origin = λ x below. plans.origin x below ∙ ap (file_origin b lists (file_of i u)) (zero-add x);
    } in
    (ps, [], sym (append-nil ps), own, refl)

pub lens-more : (b : ℕ) (u : Map) (is js : List InodeId) → lens_of b u (is ++ js) ≡ lens_of b u is + lens_of b u js
lens-more b u [] js = omega arith
lens-more b u (i ∷ is) js = omega (arith, lens-more b u is js)

pub keys-more : (u : Map) (is : List InodeId) (i : InodeId) → files_keys u (is ++ i ∷ []) ≡ files_keys u is ++ file_keys u i
keys-more u [] i = append-nil (file_keys u i)
keys-more u (j ∷ is) i = ap (λ l. file_keys u j ++ l) (keys-more u is i) ∙ sym (append_assoc (file_keys u j) (files_keys u is) (file_keys u i))

-- no file
pub ReadsFiles-none : (b : ℕ) (u : Map) (ps : List Piece) → ps ≡ [] → ReadsFiles b u [] [] ps
ReadsFiles-none b u ps none = record {
  len = ap pieces_len none;
  plans = λ lists tell. none;
  names = λ P Q hole map known. subst (λ (qs : List Piece). PiecesBytes P qs) (sym none) (PiecesBytes-none P);
  slices = λ P Q map. tt;
}

-- and one more
pub ReadsFiles-more : (b : ℕ) (u : Map) (is : List InodeId) (i : InodeId) (fs gs : List ListFact) (ps qs : List Piece) → ReadsFiles b u is fs ps
    → ReadsFile b (file_of i u) 0 (file_len b (file_of i u)) gs qs
    → ReadsFiles b u (is ++ i ∷ []) (fs ++ gs) (ps ++ qs)
ReadsFiles-more b u is i fs gs ps qs first next = record {
  len = omega (arith, pieces_len-append ps qs, first.len, next.len, lens-more b u is (i ∷ []));
  plans = λ lists tell.
      let parts = TellLists-parts lists fs gs tell in
      plans-more b lists u is i ps qs (first.plans lists parts.0) (one_file b lists u i qs (next.plans lists parts.1));
  names = λ P Q hole map known.
      let parts = ListsBytes-parts P Q fs gs known in
      PiecesBytes-append P ps qs (first.names P Q hole map parts.0) (next.names P Q hole (file_bytes P Q i u map) parts.1);
  slices = λ P Q map. ListSlices-append P Q fs gs (first.slices P Q map) (next.slices P Q (file_bytes P Q i u map));
}
