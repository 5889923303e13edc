-- The lists that are known by a part of a span are known by the whole.
use Rattle.std.proofs.Common.{List, [], sym, subst}
use Rattle.wtf_base.specs.declared.settings.Settings.{Settings}
use Rattle.wtf_dev.specs.Store.{StoreKind, KindLaws}
use Rattle.wtf_meta.specs.Lists.{ListFact, TellLists}
use Rattle.wtf_meta.specs.Bytes.{any_slice}
use Rattle.wtf_meta.specs.Contents.{Told, is_told, lists_in}
use Rattle.wtf_meta.proofs.Telling.{TellsOn, is_told-later, TellLists-later}
use Rattle.wtf_meta.proofs.Weaker.{slices_stay}
use Rattle.wtf_region.specs.declared.dev.Dev.{Dev}
use Rattle.wtf_region.specs.Devs.{GoesOn, told_in}
use Rattle.wtf_region.specs.Reads.{TellsFacts}
use Rattle.wtf_replay.proofs.Later.{tells_on}

-- by the first part
pub scope_later : {S : Type 0} {kind : StoreKind S} → KindLaws kind → (old : Dev S) {mid new : Dev S} → GoesOn kind mid new [] → (lists : List ListFact)
    → TellsFacts kind old mid lists
    → TellsFacts kind old new lists
scope_later {kind = kind} laws old {mid = mid} {new = new} more lists h = λ ranges cache told away.
    let now : Told = told_in kind mid in
    let last : Told = told_in kind new in
    subst (λ (st : Settings). TellLists (lists_in st.region last) lists) (sym more.settings)
    (TellLists-later now last mid.settings.region lists (tells_on laws more.each) (h ranges cache told away))

-- and by the last
pub scope_since : {S : Type 0} {kind : StoreKind S} → KindLaws kind → {old mid : Dev S} (new : Dev S) → GoesOn kind old mid [] → (lists : List ListFact)
    → TellsFacts kind mid new lists
    → TellsFacts kind old new lists
scope_since {kind = kind} laws {old = old} {mid = mid} new goes lists h = λ ranges cache told away.
    let was : Told = told_in kind old in
    let now : Told = told_in kind mid in
    let on : TellsOn was now = tells_on laws goes.each in
    h ranges (goes.lists ranges cache)
    (slices_stay (is_told was) (is_told now) (λ places is. is_told-later was now places on is) any_slice any_slice (λ s is. is) lists told) away
