use Rattle.std.proofs.Common.{◌≡◌, ◌+◌, ◌-◌, ℕ, List, [], ◌++◌, refl, length, take, drop, replicate, arith, sym, subst, length-drop, vec_len, Bool, true, false}
use Rattle.std.proofs.Common.{cond}
use Rattle.std.proofs.lemmas.List.{length-take}
use Rattle.std.specs.Result.{is_ok}
use Rattle.wtf_overlay.specs.Origin.{part_origin}
use Rattle.wtf_overlay.specs.declared.part.Part.{Part}
use Rattle.wtf_replica.specs.Downs.{during}
use Rattle.wtf_replica.specs.Bytes.{byte_at}
use Rattle.wtf_region.specs.Devs.{stores, is_down_in}
use Rattle.wtf_region.specs.Showing.{IsReadablePart, ShowsBytes, GivesBytes, meaning_up}
use Rattle.wtf_region.proofs.ShowLaws.{copy_shows, copy_lives, part_fault, end_written}
use Rattle.wtf_region.proofs.InsideLaws.{part_past}
use Rattle.wtf_region.proofs.Spans.{goes_by}
use Rattle.wtf_region.proofs.fetching.show_part.Goals as goal

pub fetch-requires-clause-inside : goal.fetch-requires-clause-inside
fetch-requires-clause-inside g c =
    (subst (λ (x : Part). IsReadablePart g.S.SliceStore.kind c.args.dev.now x) c.in-Held.is c.requires.readable).0

pub returns-in-Err-clause-fault : goal.returns-in-Err-clause-fault
returns-in-Err-clause-fault g c =
    part_fault g.S.SliceStore.kind (during c.args.dev.now.replicas.now c.args.dev.now.shelf.now c.fetch.new.shelf) c.args.piece.now.part c.in-Held.slice
    c.in-Held.is c.in-Err.why c.in-Err.ensures.fault

chosen : {X : Type 0} (b : Bool) (x y z : X) → z ≡ cond b x y → b ≡ true → z ≡ x
chosen true x y z is h = is
chosen false x y z is h = cc

pub returns-clause-shown : goal.returns-clause-shown
returns-clause-shown g c =
    let n = c.args.len in
    let a = c.len-from.result in
    let end = c.in-Some.end in
    let old = c.args.out.now.items in
    let from : length old ≡ a = omega (arith, c.len-from.ensures) in
    let upto : end ≡ a + n = omega (arith, c.in-Some.ensures.1) in
    let zeros : List ℕ = replicate (end - vec_len c.args.out.now) 0 in
    let ok = c.if-is_err.ensures.negation in
    let items : c.resize.new.self.items ≡ take end old ++ zeros = chosen (is_ok c.resize.result) (take end old ++ zeros) old c.resize.new.self.items
    c.resize.ensures.items ok in
    let len : c.resize.new.self.len ≡ end = chosen (is_ok c.resize.result) end (vec_len c.args.out.now) c.resize.new.self.len c.resize.ensures.len ok in
    let xs = c.deref_mut.result.now in
    let read : length c.fetch.new.out ≡ n = omega (
      arith,
      c.fetch.auto.out,
      length-take (length xs - a) (drop a xs),
      length-drop a xs,
      c.deref_mut.ensures.len,
      len,
      upto,
    ) in
    let kind = g.S.SliceStore.kind in
    let shelf = stores c.args.dev.now in
    let down = is_down_in c.args.dev.now in
    let more = end_written old xs c.resize.new.self.items c.fetch.new.out zeros _ _ a n c.resize.new.self.len end from c.deref_mut.ensures.value upto items read
    len in
    record {
      shown = record {
        bytes = c.fetch.new.out;
        more = more;
        are = subst (λ (x : Part). ShowsBytes (byte_at kind shelf) n (λ i. part_origin x (c.args.off + i)) c.fetch.new.out) (sym c.in-Held.is)
            (copy_shows g.met.S.SliceStore.laws c.in_default-fetch.ensures.fetched n read);
      };
      live = record {
        bytes = c.fetch.new.out;
        more = more;
        are = subst (λ (x : Part). GivesBytes (meaning_up down (byte_at kind shelf)) n (λ i. part_origin x (c.args.off + i)) c.fetch.new.out) (sym c.in-Held.is)
            (copy_lives kind down shelf c.in-Held.slice c.args.off c.fetch.new.out c.in_default-fetch.ensures.shows_up n read);
      };
    }

pub returns-in-Err-clause-dev : goal.returns-in-Err-clause-dev
returns-in-Err-clause-dev g c = goes_by g.met.S.SliceStore.laws c.args.dev.now _ [] c.requires.sound refl refl refl c.requires.sound.cache refl refl refl
    c.fetch.ensures.follows (part_past g.S.SliceStore.kind c.args.dev.now c.args.piece.now.part
    c.in-Held.slice c.fetch.new.shelf c.in-Held.is c.requires.readable c.fetch.ensures.beside)

pub returns-clause-dev : goal.returns-clause-dev
returns-clause-dev g c = goes_by g.met.S.SliceStore.laws c.args.dev.now _ [] c.requires.sound refl refl refl c.requires.sound.cache refl refl refl
    c.fetch.ensures.follows (part_past g.S.SliceStore.kind c.args.dev.now c.args.piece.now.part
    c.in-Held.slice c.fetch.new.shelf c.in-Held.is c.requires.readable c.fetch.ensures.beside)
