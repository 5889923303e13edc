use Rattle.std.proofs.Common.{◌≡◌, ℕ, sym, ◌∙◌, subst}
use Rattle.wtf_occ.proofs.AttemptLaws.{Grows-on}
use Rattle.wtf_meta.specs.Bytes.{FileBytes, any_slice}
use Rattle.wtf_meta.specs.Maps.{Map, seen}
use Rattle.wtf_meta.specs.FileEdits.{file_of}
use Rattle.wtf_meta.specs.Appends.{length_keys, region_keys, touched}
use Rattle.wtf_region.specs.Devs.{inside_of}
use Rattle.wtf_region.specs.Reads.{IsFileRead, IsFileFault}
use Rattle.wtf_region.proofs.Recording.{still_seen}
use Rattle.wtf_region.proofs.Spans.{goes_nowhere}
use Rattle.wtf_slicing.proofs.whole.file_pieces.Goals as goal

pub pieces-requires-clause-inside : goal.pieces-requires-clause-inside
pieces-requires-clause-inside g c =
    let kv = c.args.kv.now in
    let at = c.args.at.now in
    let i = c.args.inode in
    let same : seen kv c.file_len.new.at ≡ seen kv at = still_seen kv i (length_keys (file_of i (seen kv at))) at c.file_len.new.at c.in-Ok.ensures.recorded in
    subst (λ (m : Map). FileBytes (inside_of g.S.SliceStore.kind c.args.dev.now) any_slice (file_of i m)) (sym same) c.requires.inside

pub returns-in-Err-clause-dev : goal.returns-in-Err-clause-dev
returns-in-Err-clause-dev g c = goes_nowhere g.met.S.SliceStore.laws c.args.dev.now c.requires.sound

pub returns-in-Ok-pieces-clause-same : goal.returns-in-Ok-pieces-clause-same
returns-in-Ok-pieces-clause-same g c =
    let kv = c.args.kv.now in
    let at = c.args.at.now in
    let mid = c.file_len.new.at in
    let i = c.args.inode in
    still_seen kv i (region_keys (touched c.args.dev.now.settings.region 0 c.in-Ok.len)) mid c.pieces.new.at c.in-Ok-pieces.ensures.recorded
    ∙ still_seen kv i (length_keys (file_of i (seen kv at))) at mid c.in-Ok.ensures.recorded

pub returns-in-Ok-pieces-clause-grows : goal.returns-in-Ok-pieces-clause-grows
returns-in-Ok-pieces-clause-grows g c =
    Grows-on c.args.at.now c.file_len.new.at c.pieces.new.at c.in-Ok.ensures.grows c.in-Ok-pieces.ensures.grows

pub returns-in-Err-pieces-clause-grows : goal.returns-in-Err-pieces-clause-grows
returns-in-Err-pieces-clause-grows g c =
    Grows-on c.args.at.now c.file_len.new.at c.pieces.new.at c.in-Ok.ensures.grows c.in-Err-pieces.ensures.grows

pub returns-in-Ok-pieces-clause-read : goal.returns-in-Ok-pieces-clause-read
returns-in-Ok-pieces-clause-read g c =
    let kind = g.S.SliceStore.kind in
    let kv = c.args.kv.now in
    let at = c.args.at.now in
    let i = c.args.inode in
    let dev = c.args.dev.now in
    let b : Map = seen kv at in
    let out = c.in-Ok-pieces.found.items in
    let same : seen kv c.file_len.new.at ≡ b = still_seen kv i (length_keys (file_of i b)) at c.file_len.new.at c.in-Ok.ensures.recorded in
    subst (λ (n : ℕ). IsFileRead kind dev c.pieces.new.dev (file_of i b) 0 n out) c.in-Ok.ensures.value
    (subst (λ (m : Map). IsFileRead kind dev c.pieces.new.dev (file_of i m) 0 c.in-Ok.len out) same c.in-Ok-pieces.ensures.read)

pub returns-in-Err-pieces-clause-fault : goal.returns-in-Err-pieces-clause-fault
returns-in-Err-pieces-clause-fault g c =
    let kind = g.S.SliceStore.kind in
    let kv = c.args.kv.now in
    let at = c.args.at.now in
    let i = c.args.inode in
    let dev = c.args.dev.now in
    let b : Map = seen kv at in
    let same : seen kv c.file_len.new.at ≡ b = still_seen kv i (length_keys (file_of i b)) at c.file_len.new.at c.in-Ok.ensures.recorded in
    subst (λ (n : ℕ). IsFileFault kind dev c.pieces.new.dev (file_of i b) 0 n c.in-Err-pieces.why) c.in-Ok.ensures.value
    (subst (λ (m : Map). IsFileFault kind dev c.pieces.new.dev (file_of i m) 0 c.in-Ok.len c.in-Err-pieces.why) same c.in-Err-pieces.ensures.fault)
