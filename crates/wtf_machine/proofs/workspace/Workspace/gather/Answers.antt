use Rattle.std.proofs.Common.{
  ◌≡◌,
  ℕ,
  suc,
  ◌+◌,
  ◌<◌,
  List,
  ◌∷◌,
  ◌++◌,
  length,
  drop,
  get_or,
  Result,
  Ok,
  Err,
  refl,
  sym,
  ap,
  ◌∙◌,
  add-one,
  drop-cons,
  append_assoc,
}
use Rattle.wtf_model.specs.declared.answer.Word.{Word}
use Rattle.wtf_model.specs.Tree.{Tree, ◌>>=◌, source, sources}
use Rattle.wtf_machine.proofs.workspace.Workspace.gather.Goals as goal

-- the files from one on
sources-next : (t : Tree) (ps : List (List ℕ)) (i : ℕ) (p : List ℕ) (r : Result (List ℕ) Word) → i < length ps → p ≡ get_or ps i p → source t p ≡ r
    → sources t (drop i ps) ≡ (r >>= (λ bytes. sources t (drop (i + 1) ps) >>= (λ rest. Ok (bytes ++ rest))))
sources-next t ps i p r below at is =
    ap (sources t) (drop-cons ps i p below) ∙ ap (λ q. sources t (q ∷ drop (suc i) ps)) (sym at)
    ∙ ap (λ x. x >>= (λ bytes. sources t (drop (suc i) ps) >>= (λ rest. Ok (bytes ++ rest)))) is
    ∙ ap (λ n. r >>= (λ bytes. sources t (drop n ps) >>= (λ rest. Ok (bytes ++ rest)))) (sym (add-one i))

-- one more file is joined
joined-more : (r : Result (List ℕ) Word) (joined bytes : List ℕ)
    → ((r >>= (λ rest. Ok (bytes ++ rest))) >>= (λ rest. Ok (joined ++ rest))) ≡ (r >>= (λ rest. Ok ((joined ++ bytes) ++ rest)))
joined-more (Ok rest) joined bytes = ap Ok (sym (append_assoc joined bytes rest))
joined-more (Err w) joined bytes = refl

pub returns-in-Err-clause-err : goal.returns-in-Err-clause-err
returns-in-Err-clause-err c =
    c.loop-path.invariant
    ∙ ap (λ (r : Result (List ℕ) Word). r >>= (λ rest. Ok (c.loop-path.joined.items ++ rest)))
    (sources-next c.args.self.now.tree c.args.paths.now c.loop-path.path-index c.path-item.result
    (Err c.in-Err.word) c.loop-path-test.true c.path-item.is c.in-Err.ensures.err)

pub loop-path-preserved : goal.loop-path-preserved
loop-path-preserved c =
    let left = sources c.args.self.now.tree (drop (c.loop-path.path-index + 1) c.args.paths.now) in
    c.loop-path.invariant
    ∙ ap (λ (r : Result (List ℕ) Word). r >>= (λ rest. Ok (c.loop-path.joined.items ++ rest)))
    (sources-next c.args.self.now.tree c.args.paths.now c.loop-path.path-index c.path-item.result
    (Ok c.in-Ok.bytes.now) c.loop-path-test.true c.path-item.is c.in-Ok.ensures.ok)
    ∙ joined-more left c.loop-path.joined.items c.in-Ok.bytes.now
    ∙ ap (λ (b : List ℕ). left >>= (λ rest. Ok (b ++ rest))) (sym c.in_ok-extend_from_slice-in-Ok.ensures.items)
