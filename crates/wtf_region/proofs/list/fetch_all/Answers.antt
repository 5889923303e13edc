use Rattle.std.proofs.Common.{[], arith, refl}
use Rattle.wtf_region.specs.Devs.{is_down_in, stores}
use Rattle.wtf_region.proofs.InsideLaws.{slice_known, past_beside}
use Rattle.wtf_region.proofs.Spans.{goes_by}
use Rattle.wtf_region.proofs.ListReads.{slice_inside_readable, some_bytes}
use Rattle.wtf_region.proofs.list.fetch_all.Goals as goal

pub fetch-requires-clause-inside : goal.fetch-requires-clause-inside
fetch-requires-clause-inside g c = slice_inside_readable g.S.SliceStore.kind (is_down_in c.args.dev.now) (stores c.args.dev.now)
    c.args.dev.now.settings c.args.slice.now c.requires.sound.shelf c.requires.inside

pub returns-clause-dev : goal.returns-clause-dev
returns-clause-dev g c =
    let dev = c.args.dev.now in
    let s = c.args.slice.now in
    let known = slice_known g.S.SliceStore.kind (stores dev) dev.settings s c.requires.sound.shelf (some_bytes s) c.requires.inside in
    goes_by g.met.S.SliceStore.laws dev _ [] c.requires.sound refl refl refl c.requires.sound.cache refl refl refl c.fetch.ensures.follows
    (past_beside dev.settings.servers s (stores dev) c.fetch.new.shelf known c.fetch.ensures.beside)

pub returns-clause-whole : goal.returns-clause-whole
returns-clause-whole g c = omega (arith, c.fetch.auto.out, c.requires.whole)
