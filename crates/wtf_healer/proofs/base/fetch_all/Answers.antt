use Rattle.std.proofs.Common.{[], refl}
use Rattle.wtf_region.specs.Devs.{is_down_in, stores}
use Rattle.wtf_region.proofs.InsideLaws.{past_beside}
use Rattle.wtf_region.proofs.Spans.{goes_by}
use Rattle.wtf_healer.proofs.Reading.{left_readable, left_known}
use Rattle.wtf_healer.proofs.base.fetch_all.Goals as goal

pub fetch-requires-clause-inside : goal.fetch-requires-clause-inside
fetch-requires-clause-inside g c =
    let dev = c.args.dev.now in
    left_readable g.S.SliceStore.kind (stores dev) dev.settings (is_down_in dev) c.requires.sound.shelf c.args.slice.now c.requires.inside

pub returns-clause-dev : goal.returns-clause-dev
returns-clause-dev g c =
    let dev = c.args.dev.now in
    let s = c.args.slice.now in
    let known = left_known g.S.SliceStore.kind (stores dev) dev.settings (is_down_in dev) c.requires.sound.shelf s c.requires.inside in
    goes_by g.met.S.SliceStore.laws dev _ [] c.requires.sound refl refl refl c.requires.sound.cache refl refl refl c.fetch.ensures.follows
    (past_beside dev.settings.servers s (stores dev) c.fetch.new.shelf known c.fetch.ensures.beside)
