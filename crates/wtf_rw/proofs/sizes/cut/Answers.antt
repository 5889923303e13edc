use Rattle.std.proofs.Common.{ℕ, ◌-◌, ◌*◌, ◌/◌, [], ◌∷◌, refl, ap, arith}
use Rattle.wtf_occ.proofs.AttemptLaws.{GrowsBy-change, GrowsBy-append, Grows-on}
use Rattle.wtf_meta.specs.FileEdits.{SetLast, Clip, CutAbove, edit_of}
use Rattle.wtf_meta.proofs.Truncating.{cut_edits}
use Rattle.wtf_rw.proofs.SizeEdits.{cuts_to}
use Rattle.wtf_rw.proofs.sizes.cut.Goals as goal

pub returns-clause-ok : goal.returns-clause-ok
returns-clause-ok c =
    let i = c.args.inode in
    let b = c.args.settings.region in
    let n = c.args.n in
    let r : ℕ = c.saturating_sub.result / b in
    let k : ℕ = n - r * b in
    let at = c.args.at.now in
    let one = c.delta.new.self in
    let two = c.delta-2.new.self in
    let all = c.cut_range.new.self in
    let e1 = edit_of i (SetLast r) in
    let e2 = edit_of i (Clip r k) in
    let e3 = edit_of i (CutAbove r) in
    record {
      edits = cut_edits r k;
      grows = GrowsBy-append at one all [] [] (e1 ∷ []) (e2 ∷ e3 ∷ []) (GrowsBy-change at one e1 c.in_ok-delta.ensures.ok)
          (GrowsBy-append one two all [] [] (e2 ∷ []) (e3 ∷ []) (GrowsBy-change one two e2 c.in_ok-delta-2.ensures.ok)
          (GrowsBy-change two all e3 c.in_ok-cut_range.ensures.ok));
      does = cuts_to b n r k i (omega (arith, c.args.settings.limits)) c.requires (ap (λ (m : ℕ). m / b) c.saturating_sub.ensures) refl;
    }

pub returns-clause-grows : goal.returns-clause-grows
returns-clause-grows c =
    let one = c.delta.new.self in
    let two = c.delta-2.new.self in
    let all = c.cut_range.new.self in
    Grows-on c.args.at.now one all c.in_ok-delta.ensures.grows (Grows-on one two all c.in_ok-delta-2.ensures.grows c.in_ok-cut_range.ensures.grows)

pub returns-in_err-cut_range-clause-grows : goal.returns-in_err-cut_range-clause-grows
returns-in_err-cut_range-clause-grows c =
    let one = c.delta.new.self in
    let two = c.delta-2.new.self in
    let all = c.cut_range.new.self in
    Grows-on c.args.at.now one all c.in_ok-delta.ensures.grows (Grows-on one two all c.in_ok-delta-2.ensures.grows c.in_err-cut_range.ensures.grows)
