-- The lines that put a file store its bytes at the path.
use Rattle.std.proofs.Common.{
  ◌≡◌,
  ◌≢◌,
  ℕ,
  ◌+◌,
  ◌-◌,
  ◌≤◌,
  Bool,
  true,
  false,
  cond,
  List,
  [],
  ◌∷◌,
  ◌++◌,
  length,
  drop,
  replicate,
  Option,
  Some,
  None,
  Result,
  Err,
  refl,
  sym,
  ap,
  ◌∙◌,
  arith,
  append_assoc,
  subst,
  inl,
  inr,
}
use Rattle.std.specs.Prelude.{All}
use Rattle.std.specs.FinMap.{get, insert, get-empty}
use Rattle.std.specs.Ordering.{nat_cmp}
use Rattle.std.proofs.lemmas.List.{length-append, append-nil, take_all, drop_all}
use Rattle.std.proofs.lemmas.List.Elements.{All-nil, All-cons, All-head, All-tail}
use Rattle.wtf_path.specs.Grammar.{IsPath}
use Rattle.wtf_path.specs.Parts.{parent_of}
use Rattle.wtf_model.specs.declared.answer.Word.{Word}
use Rattle.wtf_model.specs.declared.answer.Word.TheVariants.{Exists, NoParent}
use Rattle.wtf_model.specs.declared.op.Op.TheVariants as op
use Rattle.wtf_model.specs.Tree.{only_path, TreeNode, Tree, Dir, File, root, ◌>>=◌, is_free, is_parent, target_in, paths_at}
use Rattle.wtf_model.specs.Session.{Session, Handle}
use Rattle.wtf_model.specs.Done.{Done, bytes_at, bytes_or_none, refiled, put_node, add_file}
use Rattle.wtf_model.specs.ByteCalls.{written}
use Rattle.wtf_model.specs.Call.{call}
use Rattle.wtf_model.proofs.TreeLaws.{same_or_other}
use Rattle.wtf_model.proofs.CallLaws.{target-free, source-file, call-create, call-open, call-write}
use Rattle.wtf_model.proofs.NameLaws.{mkdir-made, mkdir-refused}
use Rattle.wtf_model.proofs.Laws.{get-handle_same, get-node_same, get-node_other}
use Rattle.wtf_model.proofs.PathLaws.{refiled-alone}
use Rattle.wtf_carry.specs.Asked.{Asked, turn, total, carried, writes, begin_line, try_line, mkdir_line, create_line, open_line, seek_line, write_line}
use Rattle.wtf_carry.specs.Ways.{IsWayUp, mkdirs}
use Rattle.wtf_carry.specs.Puts.{IsPiece, joined, head_lines, put_lines}
use Rattle.wtf_carry.specs.Runs.{Stand, after_line, after_lines, IsFilePut, IsWay, PutIsStored, PutIsGot}
use Rattle.wtf_carry.proofs.Carried.{joined-size}
use Rattle.wtf_carry.proofs.WayLaws.{no-parent, shorter}
use Rattle.wtf_carry.proofs.RunLaws.{ready-start, ready-seek, read-is-got}

-- ---- directories on the way

-- no path stands on the way to itself
others-up : (q p : List ℕ) (up : List (List ℕ)) → IsPath p → IsWayUp p up → length p ≤ length q → All (λ d. q ≢ d) up
others-up q p [] is way long = let P : List ℕ → Type 0 = λ d. q ≢ d in All-nil P
others-up q p (d ∷ ds) is way long =
    let P : List ℕ → Type 0 = λ x. q ≢ x in
    let less = shorter p d is way.0 in
    All-cons P d ds (λ e. absurd (omega (arith, less, long, ap length e))) (others-up q d ds way.2 way.3 (omega (arith, less, long)))

-- ---- directories

record IsRefused (r : Result (Unit {0}) Word) : Type 0 where
  word : Word
  is : r ≡ Err word

refused-in : (x : Option TreeNode) → IsRefused (is_parent x >>= λ _. is_free (Some Dir))
refused-in None = record { word = NoParent; is = refl }
refused-in (Some Dir) = record { word = Exists; is = refl }
refused-in (Some (File paths bytes)) = record { word = NoParent; is = refl }

refused-at : (t : Tree) (d : List ℕ) (o : Option (List ℕ)) → get t d ≡ Some Dir → IsRefused (target_in t d o)
refused-at t d None there = record { word = Exists; is = refl }
refused-at t d (Some dir) there =
    let P : Option TreeNode → Type 0 = λ x. IsRefused (is_parent (get t dir) >>= λ _. is_free x) in
    subst P (sym there) (refused-in (get t dir))

-- a directory stays
mkdir-stays : (cap : ℕ) (s : Session) (d : List ℕ) → get s.tree d ≡ Some Dir → (call cap s (op.Mkdir d)).session ≡ s
mkdir-stays cap s d there = let r = refused-at s.tree d (parent_of d) there in ap (λ (x : Done). x.session) (mkdir-refused cap s d r.word r.is)

-- what making directories leaves
record Made (path : List ℕ) (up : List (List ℕ)) (old new : Session) : Type 0 where
  handles : new.handles ≡ old.handles
  parent : (dir : List ℕ) → parent_of path ≡ Some dir → get new.tree dir ≡ Some Dir
  some : parent_of path ≢ None
  top : get new.tree root ≡ Some Dir
  others : (q : List ℕ) → All (λ d. q ≢ d) up → get new.tree q ≡ get old.tree q
  way : (q : List ℕ) → IsWay old.tree q → IsWay new.tree q

some-one : (x y : List ℕ) (o : Option (List ℕ)) → o ≡ Some x → o ≡ Some y → x ≡ y
some-one x y o e f = let k : Some x ≡ Some y = sym e ∙ f in cc

some-none : (x : List ℕ) (o : Option (List ℕ)) → o ≡ Some x → o ≡ None → ⊥
some-none x o e f = let k : Some x ≡ None = sym e ∙ f in absurd cc

-- a directory is made where there is none
made-new : (cap : ℕ) (d : List ℕ) (ds : List (List ℕ)) (path : List ℕ) (old mid : Session) → parent_of path ≡ Some d → Made d ds old mid → (dir : List ℕ)
    → parent_of d ≡ Some dir
    → get mid.tree d ≡ None → Made path (d ∷ ds) old (call cap mid (op.Mkdir d)).session
made-new cap d ds path old mid up m dir e none =
    let made = mkdir-made cap mid d (target-free mid.tree d dir e (m.parent dir e) none) in
    let s' : (call cap mid (op.Mkdir d)).session ≡ put_node mid d Dir = ap (λ (x : Done). x.session) made in
    let P : Session → Type 0 = λ s. Made path (d ∷ ds) old s in
    subst P (sym s') (record {
      handles = m.handles;
      parent = λ dir' e'. ap (λ (q : List ℕ). get (insert mid.tree d Dir) q) (some-one dir' d (parent_of path) e' up) ∙ get-node_same mid.tree d Dir;
      some = λ k. some-none d (parent_of path) up k;
      top = elim (same_or_other root d) [
        | inl same ↦ ap (λ (q : List ℕ). get (insert mid.tree d Dir) q) same ∙ get-node_same mid.tree d Dir
        | inr other ↦ get-node_other mid.tree d Dir root other ∙ m.top
      ];
      others = λ q apart. let Q : List ℕ → Type 0 = λ x. q ≢ x in
          get-node_other mid.tree d Dir q (All-head Q d ds apart) ∙ m.others q (All-tail Q d ds apart);
      way = λ q k. elim (same_or_other q d) [
        | inl same ↦ inr (ap (λ (x : List ℕ). get (insert mid.tree d Dir) x) same ∙ get-node_same mid.tree d Dir)
        | inr other ↦ elim (m.way q k) [
          | inl none ↦ inl (get-node_other mid.tree d Dir q other ∙ none)
          | inr there ↦ inr (get-node_other mid.tree d Dir q other ∙ there)
        ]
      ];
    })

-- and stays where there is one
made-there : (cap : ℕ) (d : List ℕ) (ds : List (List ℕ)) (path : List ℕ) (old mid : Session) → parent_of path ≡ Some d → Made d ds old mid
    → get mid.tree d ≡ Some Dir → Made path (d ∷ ds) old (call cap mid (op.Mkdir d)).session
made-there cap d ds path old mid up m there =
    let P : Session → Type 0 = λ s. Made path (d ∷ ds) old s in
    subst P (sym (mkdir-stays cap mid d there)) (record {
      handles = m.handles;
      parent = λ dir' e'. ap (λ (q : List ℕ). get mid.tree q) (some-one dir' d (parent_of path) e' up) ∙ there;
      some = λ k. some-none d (parent_of path) up k;
      top = m.top;
      others = λ q apart. let Q : List ℕ → Type 0 = λ x. q ≢ x in m.others q (All-tail Q d ds apart);
      way = m.way;
    })

with-parent : {A : Type 0} (o : Option (List ℕ)) → o ≢ None → ((dir : List ℕ) → o ≡ Some dir → A) → A
with-parent (Some dir) some f = f dir refl
with-parent None some f = absurd (some refl)

after_lines-append : (cap : ℕ) (w : Stand) (xs ys : List Asked) → after_lines cap w (xs ++ ys) ≡ after_lines cap (after_lines cap w xs) ys
after_lines-append cap w [] ys = refl
after_lines-append cap w (x ∷ xs) ys = after_lines-append cap (after_line cap w x.event) xs ys

made-ways : (cap : ℕ) (w : Stand) (path : List ℕ) (up : List (List ℕ)) → IsPath path → path ≢ root → IsWayUp path up → get w.seen.tree root ≡ Some Dir
    → All (IsWay w.seen.tree) up → Made path up w.seen (after_lines cap w (mkdirs up)).seen
made-ways cap w path [] is not way top ways = record {
  handles = refl;
  parent = λ dir e. elim way [
    | inl first ↦ ap (λ (q : List ℕ). get w.seen.tree q) (some-one dir root (parent_of path) e first) ∙ top
    | inr none ↦ absurd (some-none dir (parent_of path) e none)
  ];
  some = λ k. not (no-parent path is k);
  top = top;
  others = λ q apart. refl;
  way = λ q k. k;
}
made-ways cap w path (d ∷ ds) is not way top ways =
    let mid = after_lines cap w (mkdirs ds) in
    let m = made-ways cap w d ds way.2 way.1 way.3 top (All-tail (IsWay w.seen.tree) d ds ways) in
    let P : Stand → Type 0 = λ v. Made path (d ∷ ds) w.seen v.seen in
    subst P (sym (after_lines-append cap w (mkdirs ds) (mkdir_line d ∷ [])))
    (elim (m.way d (All-head (IsWay w.seen.tree) d ds ways)) [
      | inl none ↦ with-parent (parent_of d) m.some (λ dir e. made-new cap d ds path w.seen mid.seen way.0 m dir e none)
      | inr there ↦ made-there cap d ds path w.seen mid.seen way.0 m there
    ])

-- ---- writes

-- so many bytes of the file are written, and all else is as in this tree
record Written (path file : List ℕ) (tree : Tree) (w : Stand) : Type 0 where
  file_is : get w.seen.tree path ≡ Some (File (only_path path) file)
  handle : get w.seen.handles 0 ≡ Some (record { path = path; off = length file })
  others : (q : List ℕ) → q ≢ path → get w.seen.tree q ≡ get tree q

written-end : (old new : List ℕ) → written old (length old) new ≡ old ++ new
written-end old new =
    ap (λ (l : List ℕ). l ++ replicate (length old - length old) 0 ++ new ++ drop (length old + length new) old) (take_all (length old) old (omega arith))
    ∙ ap (λ (n : ℕ). old ++ replicate n 0 ++ new ++ drop (length old + length new) old) (no-gap (length old))
    ∙ ap (λ (l : List ℕ). l ++ new ++ drop (length old + length new) old) (append-nil old)
    ∙ ap (λ (l : List ℕ). old ++ new ++ l) (drop_all (length old + length new) old (omega arith))
    ∙ append-nil (old ++ new)
  where
    no-gap : (n : ℕ) → n - n ≡ 0
    no-gap n = omega arith

written-more : (cap : ℕ) (w : Stand) (path file piece : List ℕ) (tree : Tree) → Written path file tree w → IsPiece piece → length file + length piece ≤ cap
    → Written path (file ++ piece) tree (after_line cap w (write_line piece).event)
written-more cap w path file [] tree r is fits = absurd (omega (arith, is.0))
written-more cap w path file (b ∷ bs) tree r is fits =
    let h : Handle = record { path = path; off = length file } in
    let was : bytes_at w.seen.tree path ≡ file = ap bytes_or_none (source-file w.seen.tree path (only_path path) file r.file_is) in
    let now = written (bytes_at w.seen.tree path) (length file) (b ∷ bs) in
    let e = call-write cap w.seen 0 b bs h r.handle fits in
    let put : refiled w.seen.tree (paths_at w.seen.tree path) (paths_at w.seen.tree path) now ≡ insert w.seen.tree path (File (only_path path) now) =
    refiled-alone w.seen.tree path file now r.file_is in
    let is_now : now ≡ file ++ b ∷ bs = ap (λ (l : List ℕ). written l (length file) (b ∷ bs)) was ∙ written-end file (b ∷ bs) in
    record {
      file_is = ap (λ (d : Done). get d.session.tree path) e ∙ ap (λ (t : Tree). get t path) put
          ∙ get-node_same w.seen.tree path (File (only_path path) now) ∙ ap (λ (l : List ℕ). Some (File (only_path path) l)) is_now;
      handle = ap (λ (d : Done). get d.session.handles 0) e ∙ get-handle_same w.seen.handles 0 (record { path = path; off = length file + length (b ∷ bs) })
          ∙ ap (λ (n : ℕ). Some (record { path = path; off = n })) (sym (length-append file (b ∷ bs)));
      others = λ q other. ap (λ (d : Done). get d.session.tree q) e ∙ ap (λ (t : Tree). get t q) put
          ∙ get-node_other w.seen.tree path (File (only_path path) now) q other ∙ r.others q other;
    }

-- a transaction ends, and the next one goes on
written-turn : (t : Bool) (cap at : ℕ) (w : Stand) (path file : List ℕ) (tree : Tree) → Written path file tree w → at ≡ length file → at ≤ cap
    → Written path file tree (after_lines cap w (cond t (try_line ∷ begin_line ∷ open_line path ∷ seek_line at ∷ []) []))
written-turn false cap at w path file tree r e fits = r
written-turn true cap at w path file tree r e fits =
    let w1 = after_line cap w try_line.event in
    let w2 = after_line cap (after_line cap w1 begin_line.event) (open_line path).event in
    let s = ready-seek cap at 0 w2 path file (ready-start cap w1 path file (only_path path, r.file_is)) fits in
    record {
      file_is = ap (λ (t : Tree). get t path) s.same ∙ r.file_is;
      handle = s.handle ∙ ap (λ (n : ℕ). Some (record { path = path; off = n })) e;
      others = λ q other. ap (λ (t : Tree). get t q) s.same ∙ r.others q other;
    }

written-carried : (cap i at : ℕ) (pieces : List (List ℕ)) (w : Stand) (path file : List ℕ) (tree : Tree) → Written path file tree w → at ≡ length file
    → length file + total (λ piece. length piece) pieces ≤ cap → All IsPiece pieces
    → Written path (file ++ joined pieces) tree (after_lines cap w (carried writes path i at pieces))
written-carried cap i at [] w path file tree r e fits each = let P : List ℕ → Type 0 = λ l. Written path l tree w in subst P (sym (append-nil file)) r
written-carried cap i at (piece ∷ pieces) w path file tree r e fits each =
    let w1 = after_lines cap w (turn try_line path i at) in
    let w2 = after_line cap w1 (write_line piece).event in
    let more = carried writes path (i + 1) (at + length piece) pieces in
    let one = written-more cap w1 path file piece tree (written-turn _ cap at w path file tree r e (omega (arith, e, fits)))
    (All-head IsPiece piece pieces each) (omega (arith, fits)) in
    let all = written-carried cap (i + 1) (at + length piece) pieces w2 path (file ++ piece) tree one (omega (arith, e, length-append file piece))
    (omega (arith, fits, length-append file piece)) (All-tail IsPiece piece pieces each) in
    let P : List ℕ → Type 0 = λ l. Written path l tree (after_lines cap w2 more) in
    let Q : Stand → Type 0 = λ v. Written path (file ++ (piece ++ joined pieces)) tree v in
    subst Q (sym (after_lines-append cap w (turn try_line path i at) (write_line piece ∷ more))) (subst P (append_assoc file piece (joined pieces)) all)

-- the file is created and opened
created : (cap : ℕ) (w : Stand) (path : List ℕ) (dir : List ℕ) → parent_of path ≡ Some dir → get w.seen.tree dir ≡ Some Dir → get w.seen.tree path ≡ None
    → get w.seen.handles 0 ≡ None → Written path [] w.seen.tree (after_lines cap w (create_line path ∷ open_line path ∷ []))
created cap w path dir up there none unused =
    let s = w.seen in
    let made : (call cap s (op.Create path)).session ≡ add_file s path [] =
    ap (λ (d : Done). d.session) (call-create cap s path (target-free s.tree path dir up there none)) in
    let P : Session → Type 0 = λ x. Written path [] s.tree (record { now = w.now; seen = (call cap x (op.Open 0 path)).session }) in
    let is : get (add_file s path []).tree path ≡ Some (File (only_path path) []) = get-node_same s.tree path (File (only_path path) []) in
    let e = call-open cap (add_file s path []) 0 path [] unused (source-file (add_file s path []).tree path (only_path path) [] is) in
    subst P (sym made) (record {
      file_is = ap (λ (d : Done). get d.session.tree path) e ∙ is;
      handle = ap (λ (d : Done). get d.session.handles 0) e ∙ get-handle_same s.handles 0 (record { path = path; off = 0 });
      others = λ q other. ap (λ (d : Done). get d.session.tree q) e ∙ get-node_other s.tree path (File (only_path path) []) q other;
    })

-- ---- all lines

none-there : (t : Tree) (path : List ℕ) → get t root ≡ Some Dir → get t path ≡ None → path ≢ root
none-there t path top none = λ e. let k : Some Dir ≡ None = sym top ∙ ap (λ (q : List ℕ). get t q) (sym e) ∙ none in absurd cc

head-written : (cap : ℕ) (w : Stand) (path : List ℕ) (up : List (List ℕ)) → IsPath path → IsWayUp path up → get w.now root ≡ Some Dir → get w.now path ≡ None
    → All (IsWay w.now) up → (tree : Tree) × Written path [] tree (after_lines cap w (head_lines path up))
    × ((q : List ℕ) → All (λ d. q ≢ d) up → get tree q ≡ get w.now q)
head-written cap w path up is way top none ways =
    let w1 = after_line cap w begin_line.event in
    let w2 = after_lines cap w1 (mkdirs up) in
    let m = made-ways cap w1 path up is (none-there w.now path top none) way top ways in
    let free : get w2.seen.tree path ≡ None = m.others path (others-up path path up is way (omega arith)) ∙ none in
    let unused : get w2.seen.handles 0 ≡ None = ap (λ (h : _). get h 0) m.handles ∙ get-empty nat_cmp 0 in
    let P : Stand → Type 0 = λ v. Written path [] w2.seen.tree v in (
      w2.seen.tree,
      subst P (sym (after_lines-append cap w1 (mkdirs up) (create_line path ∷ open_line path ∷ [])))
          (with-parent (parent_of path) m.some (λ dir e. created cap w2 path dir e (m.parent dir e) free unused)),
      m.others,
    )

pub put-is-stored : PutIsStored
put-is-stored = λ cap w path file old new p is top none ways fits.
    let w1 = after_lines cap w (head_lines path p.up) in
    let head = head-written cap w path p.up is p.way top none ways in
    let lines = carried writes path 0 0 p.pieces in
    let size : total (λ piece. length piece) p.pieces ≡ length file = sym (joined-size p.pieces) ∙ ap length p.bytes in
    let all = written-carried cap 0 0 p.pieces w1 path [] head.0 head.1 refl (omega (arith, size, fits)) p.sized in
    let P : Stand → Type 0 = λ v. IsFilePut path file p.up w.now v.now in
    subst P (sym (after_lines-append cap w (head_lines path p.up) (lines ++ try_line ∷ []) ∙ after_lines-append cap w1 lines (try_line ∷ []))) (record {
      file_is = all.file_is ∙ ap (λ (l : List ℕ). Some (File (only_path path) l)) p.bytes;
      others = λ q other apart. all.others q other ∙ head.2 q apart;
    })

pub put-is-got : PutIsGot
put-is-got = λ cap w path file old before first new now p r answers is top none ways fits bytes begins short are.
    let put = put-is-stored cap w path file old new p is top none ways fits in
    read-is-got cap (after_lines cap w (put_lines path p.up p.pieces)) path file before first now r answers
    (only_path path, put.file_is) bytes fits begins short are
