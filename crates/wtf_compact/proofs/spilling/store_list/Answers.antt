use Rattle.std.proofs.Common.{◌<◌, ◌^◌, ℕ, List, length, sym, ap, ◌∙◌, subst}
use Rattle.wtf_base.specs.declared.settings.Settings.{Settings}
use Rattle.wtf_overlay.specs.Spilled.{decoded}
use Rattle.wtf_spillfmt.proofs.Lists.{some_bytes}
use Rattle.wtf_meta.specs.Bytes.{SliceBytes}
use Rattle.wtf_meta.specs.Contents.{lists_in}
use Rattle.wtf_region.specs.Inside.{is_inside}
use Rattle.wtf_region.specs.Devs.{stores, told_in}
use Rattle.wtf_region.proofs.InsideLaws.{slice_inside}
use Rattle.wtf_compact.proofs.Encoding.{few_bytes, told_list}
use Rattle.wtf_compact.proofs.spilling.store_list.Goals as goal

pub store_bytes-requires-clause-some : goal.store_bytes-requires-clause-some
store_bytes-requires-clause-some g c =
    subst (λ (l : List ℕ). 0 < length l) (sym (c.as_slice.ensures.value ∙ c.in-Ok.ensures.bytes)) (some_bytes c.args.list.now)

pub store_bytes-requires-clause-few : goal.store_bytes-requires-clause-few
store_bytes-requires-clause-few g c =
    subst (λ (l : List ℕ). length l < 2 ^ 32) (sym (c.as_slice.ensures.value ∙ c.in-Ok.ensures.bytes))
    (few_bytes c.args.dev.now.settings.region c.args.list.now c.args.dev.now.settings.limits.6 c.requires.compact c.requires.within)

pub returns-in-Ok-store_bytes-clause-told : goal.returns-in-Ok-store_bytes-clause-told
returns-in-Ok-store_bytes-clause-told g c = λ all.
    let kind = g.S.SliceStore.kind in
    let old = c.args.dev.now.settings in
    let told = told_in kind c.store_bytes.new.dev in
    let s = c.in-Ok-store_bytes.slice in
    ap (λ (st : Settings). lists_in st.region told s) c.store_bytes.ensures.dev.settings
    ∙ told_list told old.region s c.as_slice.result.now c.args.list.now c.in-Ok-store_bytes.ensures.stored.len (c.in-Ok-store_bytes.ensures.holds all)
    (ap (decoded old.region) (c.as_slice.ensures.value ∙ c.in-Ok.ensures.bytes) ∙ c.in-Ok.ensures.again old.region c.requires.within)

pub returns-in-Ok-store_bytes-clause-inside : goal.returns-in-Ok-store_bytes-clause-inside
returns-in-Ok-store_bytes-clause-inside g c =
    let kind = g.S.SliceStore.kind in
    let new = c.store_bytes.new.dev in
    let s = c.in-Ok-store_bytes.slice in
    subst (λ (st : Settings). SliceBytes (is_inside kind (stores new) st) s) (sym c.store_bytes.ensures.dev.settings)
    (slice_inside kind (stores new) c.args.dev.now.settings s c.in-Ok-store_bytes.ensures.inside c.in-Ok-store_bytes.ensures.known)
