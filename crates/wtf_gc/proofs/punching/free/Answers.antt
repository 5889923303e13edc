use Rattle.std.proofs.Common.{◌≡◌, Bool, false, [], ◌∷◌, refl, subst, arith}
use Rattle.std.proofs.lemmas.Result.{on_ok_weaker}
use Rattle.wtf_dev.specs.Each.{EachFollows}
use Rattle.wtf_replica.specs.Faults.{punched_on}
use Rattle.wtf_replica.specs.Outs.{SameFrom}
use Rattle.wtf_replica.proofs.InsideLaws.{size_in-at}
use Rattle.wtf_region.specs.Devs.{is_down_in, stores}
use Rattle.wtf_region.proofs.Spans.{goes_by}
use Rattle.wtf_gc.specs.Frees.{range_of, tried_on}
use Rattle.wtf_gc.proofs.Freeing.{on_err, others_from}
use Rattle.wtf_gc.proofs.Zeroing.{ReadsZeros, both_ok, zeroed_one}
use Rattle.wtf_gc.proofs.punching.free.Goals as goal

past : (g : _) (c : goal.After-free g) → SameFrom c.args.dev.now.settings.servers (stores c.args.dev.now) c.free.new.shelf
past g c = others_from (stores c.args.dev.now) c.free.new.shelf c.args.e.now.server c.args.dev.now.settings.servers c.requires.inside.0 c.free.ensures.elsewhere

pub free-requires-clause-server : goal.free-requires-clause-server
free-requires-clause-server g c = let below = c.requires.inside.0 in omega (arith, below, c.requires.sound.shelf)

pub free-requires-clause-inside : goal.free-requires-clause-inside
free-requires-clause-inside g c = λ d.
    let e = c.args.e.now in
    let below = c.requires.inside.0 in
    let is = size_in-at g.S.SliceStore.kind (stores c.args.dev.now) e.server e.file d (omega (arith, below, c.requires.sound.shelf)) in
    let le = c.requires.inside.2 in
    omega (arith, is, le)

pub returns-clause-ok : goal.returns-clause-ok
returns-clause-ok g c =
    let dev = c.args.dev.now in
    let r = range_of c.args.e.now in
    on_ok_weaker c.free.result
    (λ (up : is_down_in dev r.0 ≡ false). goes_by g.met.S.SliceStore.laws dev _ (r ∷ []) c.requires.sound refl refl refl c.requires.sound.cache refl refl refl
    (subst (λ (b : Bool). EachFollows g.S.SliceStore.kind (stores dev) c.free.new.shelf (punched_on b r.0 r.1)) up c.free.ensures.follows) (past g c))
    c.free.ensures.up

pub returns-clause-tried : goal.returns-clause-tried
returns-clause-tried g c =
    let dev = c.args.dev.now in
    on_err _ c.free.result
    (goes_by g.met.S.SliceStore.laws dev _
    (tried_on dev (range_of c.args.e.now)) c.requires.sound refl refl refl c.requires.sound.cache refl refl refl c.free.ensures.follows (past g c))

pub returns-clause-zeroed : goal.returns-clause-zeroed
returns-clause-zeroed g c =
    let kind = g.S.SliceStore.kind in
    let dev = c.args.dev.now in
    let r = range_of c.args.e.now in
    let below = c.requires.inside.0 in
    on_ok_weaker c.free.result
    (λ (both : (is_down_in dev r.0 ≡ false) × ReadsZeros kind (stores dev) c.free.new.shelf r).
    zeroed_one kind dev _ r (omega (arith, below, c.requires.sound.shelf)) c.free.ensures.follows.same_length both.0 both.1)
    (both_ok (is_down_in dev r.0 ≡ false) (ReadsZeros kind (stores dev) c.free.new.shelf r) c.free.result c.free.ensures.up c.free.ensures.zeros)
