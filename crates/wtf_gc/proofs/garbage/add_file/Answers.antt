use Rattle.std.proofs.Common.{◌≡◌, ◌+◌, ◌++◌, ℕ, map, subst, sym, ap, ◌∙◌, arith}
use Rattle.wtf_gc.specs.Extents.{extents_cover}
use Rattle.wtf_gc.specs.Spans.{spans_cover, Apart, is_gap, size_of}
use Rattle.wtf_gc.specs.Frees.{ranges_of}
use Rattle.wtf_gc.specs.Unused.{range_at, IsUnused}
use Rattle.wtf_gc.specs.Views.{mark_in}
use Rattle.wtf_gc.proofs.Ranges.{apart_ordered, file_more, size_fits}
use Rattle.wtf_gc.proofs.garbage.add_file.Goals as goal

pub put_spans-requires : goal.put_spans-requires
put_spans-requires c = apart_ordered 0 c.mark_of-mark.result c.as_slice.result.now
    (subst (λ l. Apart 0 c.mark_of-mark.result l) (sym c.as_slice.ensures.value) c.in_ok-spans.ensures.apart)

pub overflow_add-to : goal.overflow_add-to
overflow_add-to c =
    let m = c.mark_of-mark.result in
    let gs = c.in_ok-spans.spans.items in
    let is_mark : m ≡ mark_in c.args.marks.now c.args.k c.args.file = c.mark_of-mark.ensures in
    let more : c.total.result ≡ size_of m (spans_cover gs) = c.total.ensures ∙ ap (λ l. size_of m (spans_cover l)) c.as_slice-2.ensures.value in
    let le = size_fits m gs c.in_ok-spans.ensures.apart in
    omega (arith, is_mark, more, le, c.requires.file, c.requires.fits, c.requires.upto.few)

pub returns : goal.returns
returns c =
    let k = c.args.k in
    let f = c.args.file in
    let m = c.mark_of-mark.result in
    let mark : ℕ → ℕ → ℕ = mark_in c.args.marks.now in
    let gs = c.in_ok-spans.spans.items in
    let spans = c.in_ok-used_spans.field-0.items in
    let old = c.args.to.now in
    let is_mark : m ≡ mark k f = c.mark_of-mark.ensures in
    let apart : Apart 0 (mark k f) gs = subst (λ (n : ℕ). Apart 0 n gs) is_mark c.in_ok-spans.ensures.apart in
    let exact : (x : ℕ) → spans_cover gs x ≡ is_gap (mark k f) spans x = λ x. c.in_ok-spans.ensures.exact x ∙ ap (λ (n : ℕ). is_gap n spans x) is_mark in
    let more : c.total.result ≡ size_of (mark k f) (spans_cover gs) =
    c.total.ensures ∙ ap (λ l. size_of m (spans_cover l)) c.as_slice-2.ensures.value ∙ ap (λ (n : ℕ). size_of n (spans_cover gs)) is_mark in
    let put : ranges_of c.put_spans.new.to.items ≡ ranges_of old.extents.items ++ map (range_at k f) gs =
    c.in_ok-put_spans.ensures ∙ ap (λ l. ranges_of old.extents.items ++ map (range_at k f) l) c.as_slice.ensures.value in
    subst (λ r. IsUnused k mark (extents_cover c.args.used.now) (f + 1) r (old.bytes + c.total.result)) (sym put)
    (file_more k f mark (extents_cover c.args.used.now)
    (ranges_of old.extents.items) old.bytes gs spans apart exact c.in_ok-used_spans.ensures.used c.total.result c.requires.fits more c.requires.upto)
