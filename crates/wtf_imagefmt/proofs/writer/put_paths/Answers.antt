use Rattle.std.proofs.Common.{length, arith}
use Rattle.std.specs.List.{flat_map}
use Rattle.std.specs.Int.{w32, to_be_bytes}
use Rattle.wtf_spillfmt.proofs.Written.{wrote_more, wrote_all, writes_then}
use Rattle.wtf_imagefmt.specs.Texts.{path_text, paths_text}
use Rattle.wtf_imagefmt.specs.Shapes.{IsPathRow}
use Rattle.wtf_imagefmt.proofs.writer.put_paths.Goals as goal

pub loop-path-preserved : goal.loop-path-preserved
loop-path-preserved c =
    wrote_more path_text IsPathRow c.put_u32.new.out.items c.loop-path.out.items c.put_path.new.out.items c.args.paths.now c.loop-path.path-index
    c.path-item.result (omega arith) c.path-item.is c.loop-path.invariant c.in_ok-put_path.ensures

pub returns : goal.returns
unfolding paths_text
returns c =
    let xs = c.args.paths.now in
    let mid = c.put_u32.new.out.items in
    let new = c.loop-path.out.items in
    writes_then c.args.out.now.items mid new (to_be_bytes w32 (length xs)) (flat_map path_text xs) c.in_ok-put_u32.ensures
    (wrote_all path_text IsPathRow mid new xs c.loop-path.path-index (omega arith) c.loop-path.invariant)
