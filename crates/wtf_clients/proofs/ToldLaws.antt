-- What holds of each byte that tables name, also of those that the lists of bases name, goes on holding over stores that tell.
use Rattle.wtf_clients.proofs.Common.{true≢false, Settings, len_of, places_of, Slice, Range, StoreKind, KindLaws, Place, decoded, size_in, PlaceView, Answer}
use Rattle.wtf_clients.proofs.Common.{Op, Handle, FileBytes, ListsBytes, any_slice, Told, is_told, is_listed, list_has, lists_in, FileView, ListFact, TellLists}
use Rattle.wtf_clients.proofs.Common.{Map, metadata_at, SessionView, handle_in, entries_from, has_list, list_has-true, TellsOn, TellBytes-later, is_told-later}
use Rattle.wtf_clients.proofs.Common.{lists_in-later, lists_in-from, entries_stay, map_stays, maybe_stays, file_bytes_stay, Dev, are_apart, IsSoundDev, GoesOn}
use Rattle.wtf_clients.proofs.Common.{RemembersTrue, stores, remembered, told_in, shown_in, between, is_inside, list_lies_inside, shows_told, inside_stays}
use Rattle.wtf_clients.proofs.Common.{slice_inside, list_inside-to, fetched_is, OwnBy, SliceBytes, IsOwnOf, HaveNamed, IsKnown, lists_have, hand_of, Of}
use Rattle.wtf_clients.proofs.Common.{tells_on, again_weaker, TablesView, TablesBytes, any_byte, has_copies, Load, IsUnread, IsNoList, HasCause, AreBased, Went}
use Rattle.wtf_clients.proofs.Common.{ListedBytes, TellsTables, AreWide, AreWithin, HoldsOfAdded, ServesTold, ◌≡◌, ℕ, ◌≤◌, Bool, true, List, [], ◌∷◌, length}
use Rattle.wtf_clients.proofs.Common.{Option, None, Some, refl, sym, ap, ◌∙◌, subst, arith}
use Rattle.wtf_clients.proofs.{Lacking.AreFullLists, Unread.copies_by}

-- what tables name goes on passing tests that more pass
pub tables_stay : (P R : List Place → Bool) → ((qs : List Place) → P qs ≡ true → R qs ≡ true) → (Q O : Slice → Bool)
    → ((s : Slice) → Q s ≡ true → O s ≡ true) → (tables : TablesView) → TablesBytes P Q tables → TablesBytes R O tables
tables_stay P R places Q O slices tables h = record {
  live = λ n is. map_stays P R places Q O slices (metadata_at tables.kv n) (h.live n is);
  each = λ c x is.
      let was = h.each c x is in
      let both = again_weaker tables.kv (hand_of x) x.log P R places Q O slices (was.hand, was.log) in
      record { hand = both.0; log = both.1 };
  planned = λ j x is. maybe_stays P R places Q O slices x.value (h.planned j x is);
}

-- the list of a slice is what it was, over stores that tell more
pub listed_later : (size : ℕ) (told later : Told) (P : List Place → Bool) → TellsOn told later → (s : Slice) → lists_have size told P s ≡ true
    → lists_have size later P s ≡ true
listed_later size told later P on s h =
    let was = has_list P (lists_in size told s) h in
    list_has-true P (lists_in size later s) was.0 (lists_in-later told later size s was.0 on was.1) was.2

-- and its bytes go on passing a test that more pass
listed_weaker : (size : ℕ) (told : Told) (P R : List Place → Bool) → ((qs : List Place) → P qs ≡ true → R qs ≡ true) → (s : Slice)
    → lists_have size told P s ≡ true → lists_have size told R s ≡ true
listed_weaker size told P R places s h =
    let was = has_list P (lists_in size told s) h in
    list_has-true R (lists_in size told s) was.0 was.1 (entries_stay P R places was.0 was.2)

-- so do all bytes that are named
pub tables_weaker : (size : ℕ) (told : Told) (P R : List Place → Bool) → ((qs : List Place) → P qs ≡ true → R qs ≡ true) → (tables : TablesView)
    → ListedBytes size told P tables → ListedBytes size told R tables
tables_weaker size told P R places tables h =
    tables_stay P R places (lists_have size told P) (lists_have size told R) (listed_weaker size told P R places) tables h

pub tables_later : (size : ℕ) (told later : Told) (P : List Place → Bool) → TellsOn told later → (tables : TablesView) → ListedBytes size told P tables
    → ListedBytes size later P tables
tables_later size told later P on tables h =
    tables_stay P P (λ qs is. is) (lists_have size told P) (lists_have size later P) (listed_later size told later P on) tables h

-- lists that are read later have such bytes, where those had them that their slices decoded to
pub lists_on : (size : ℕ) (told later : Told) (P : List Place → Bool) → TellsOn told later → (fs : List ListFact) → TellLists (lists_in size later) fs
    → ListsBytes P (lists_have size told P) fs
lists_on size told later P on [] tell = tt
lists_on size told later P on (f ∷ fs) tell =
    (λ has. entries_from P f.list (ap (list_has P) (sym tell.0) ∙ listed_later size told later P on f.slice has), lists_on size told later P on fs tell.1)

-- What is named of tables, over stores that tell them
module _ {S : Type 0} {kind : StoreKind S} (laws : KindLaws kind) (old new : Dev S) (goes : GoesOn kind old new []) (before : TablesView)
    (tells : TellsTables kind (stores old) old.settings (remembered old) before) where
  abbrev told : Told
  told = told_in kind old

  abbrev later : Told
  later = told_in kind new

  abbrev size : ℕ
  size = old.settings.region

  on : TellsOn told later
  on = tells_on laws goes.each

  -- no more than the tables is named
  abbrev IsNamed : Of → Type 0
  IsNamed Was = (P : List Place → Bool) (Q : Slice → Bool) → P [] ≡ true → TablesBytes P Q before → Was P Q

  -- so it is known
  known_of : (Was : Of) → IsNamed Was → IsKnown kind old tells.punched Was
  known_of Was was = (
    was (is_told told) (is_listed size told) refl tells.names,
    was (are_apart tells.punched) (lists_have size told (are_apart tells.punched)) refl tells.away,
  )

  -- lists that were read are those that their slices decode to
  pub named_tell : (Was Is : Of) → IsNamed Was → (h : HaveNamed kind old new Was Is) → TellLists (lists_in size later) h.lists
  named_tell Was Is was h =
      subst (λ (st : Settings). TellLists (lists_in st.region later) h.lists) goes.settings (h.told tells.punched tells.cache (known_of Was was))

  -- so what held of each byte of the tables holds of each that is named now
  pub named_keeps : (Was Is : Of) → IsNamed Was → HaveNamed kind old new Was Is → (P : List Place → Bool) → P [] ≡ true → ListedBytes size told P before
      → Is P (lists_have size later P)
  named_keeps Was Is was h P hole bytes =
      h.names P (lists_have size later P) hole (was P (lists_have size later P) hole (tables_later size told later P on before bytes))
      (lists_on size later later P (λ q byte is. is) h.lists (named_tell Was Is was h))

-- Each byte of the lists that are read of a file has as many copies as there are replicas, where those had that its bases decoded to.
pub full_lists : {S : Type 0} (kind : StoreKind S) (old mid new : Dev S) → TellsOn (told_in kind old) (told_in kind new) → mid.settings ≡ old.settings
    → new.settings ≡ old.settings → (ranges : List (ℕ × Range)) → RemembersTrue kind mid ranges
    → (full : Type 0) (file : FileView) (Q O : Slice → Bool) → FileBytes (is_told (told_in kind mid)) Q file → FileBytes (are_apart ranges) O file → (off n : ℕ)
    → AreFullLists kind mid new full (lists_have old.settings.region (told_in kind old) (has_copies old.settings.replicas)) file off n
full_lists kind old mid new on here there ranges cache full file Q O bytes away off n = λ h ps r.
    let now : Told = told_in kind mid in
    let size : ℕ = old.settings.region in
    let Had : Slice → Bool = lists_have size (told_in kind old) (has_copies old.settings.replicas) in
    let tell : TellLists (lists_in size (told_in kind new)) r.facts =
    subst (λ (st : Settings). TellLists (lists_in st.region (told_in kind new)) r.facts) there
    (r.told ranges cache (r.reads.slices (is_told now) any_slice (any_bases (is_told now) Q bytes))
    (r.reads.slices (are_apart ranges) any_slice (any_bases (are_apart ranges) O away))) in
    subst (λ (st : Settings). ListsBytes (has_copies st.replicas) Had r.facts) (sym here)
    (lists_on size (told_in kind old) (told_in kind new) (has_copies old.settings.replicas) on r.facts tell)
  where
    any_bases : (P : List Place → Bool) (R : Slice → Bool) → FileBytes P R file → FileBytes P any_slice file
    any_bases P R b = file_bytes_stay P P (λ qs is. is) R any_slice (λ s is. refl) file b

-- what a call stored lies inside the stores
module _ {S : Type 0} (kind : StoreKind S) (old new : Dev S) where
  abbrev Inside : Option Slice → Type 0
  Inside own = SliceBytes (is_inside kind (stores new) old.settings) own

  own_by_inside : (o : Option Handle) (place : Handle → PlaceView) (bytes : List ℕ) (own : Option Slice) → OwnBy kind old new o place bytes own → Inside own
  own_by_inside None place bytes own h = subst (λ z. Inside z) (sym h.1) tt
  own_by_inside (Some g) place bytes None h = tt
  own_by_inside (Some g) place bytes (Some s) h = slice_inside kind (stores new) old.settings s h.1 h.2

  pub own_inside : (w : Map) (s : SessionView) (o : Op (List ℕ)) (own : Option Slice) → IsOwnOf kind old new w s o own → Inside own
  own_inside w s (Op.Write f bytes) own h = own_by_inside (handle_in s f) _ bytes own h
  own_inside w s (Op.Append f bytes) own h = own_by_inside (handle_in s f) _ bytes own h
  own_inside w s (Op.Read f n) own h = subst (λ z. Inside z) (sym h) tt
  own_inside w s (Op.Yank f n label) own h = subst (λ z. Inside z) (sym h) tt
  own_inside w s (Op.Peek label off n) own h = subst (λ z. Inside z) (sym h) tt
  own_inside w s (Op.Concat q paths) own h = subst (λ z. Inside z) (sym h) tt
  own_inside w s o own h = subst (λ z. Inside z) (sym h.1) tt

-- What a line made of all bytes that are named, from what it kept of the places of each, where they pass a test that each byte passes which it
-- stored; and from the cause of a fault.
module _ {S : Type 0} {kind : StoreKind S} (laws : KindLaws kind) (old new : Dev S) (goes : GoesOn kind old new []) (lent : IsSoundDev kind old)
    (before : TablesView) (tells : TellsTables kind (stores old) old.settings (remembered old) before) where
  abbrev Why : Load → Answer → Type 0
  Why load a = HasCause kind (between old new) old.settings ⊥ (AreBased before) (AreWide old.settings (told_in kind old) before) load a

  inside_on : (qs : List Place) → is_inside kind (stores old) old.settings qs ≡ true → is_inside kind (stores new) old.settings qs ≡ true
  inside_on = inside_stays laws goes.each old.settings lent.shelf

  -- a list that is read is the one that its slice decodes to, and lies inside the stores
  no_list : AreWithin kind (stores old) old.settings before → (k : ℕ) → IsNoList kind (between old new) old.settings (AreBased before) k → ⊥
  no_list within k h =
      let size : ℕ = old.settings.region in
      let was : Told = told_in kind old in
      let P : List Place → Bool = is_inside kind (stores old) old.settings in
      let R : List Place → Bool = is_inside kind (stores new) old.settings in
      let Q : Slice → Bool = lists_have size was P in
      let found = has_list P (lists_in size was h.slice) (h.passes Q (tables_stay P any_byte (λ qs is. refl) Q Q (λ s is. is) before within)) in
      let bytes = lists_in-from size was h.slice found.0 found.1 in
      let shown = TellBytes-later was (shown_in kind old) (len_of h.slice) (places_of h.slice) bytes.0 (shows_told laws (stores old)) bytes.1 in
      let same : h.bytes ≡ bytes.0 = fetched_is kind (between old new) h.slice h.bytes k h.read h.whole bytes.0 shown in
      let read : decoded size h.bytes ≡ Some found.0 = ap (decoded size) same ∙ bytes.2 in
      let enough : old.settings.servers ≤ length (stores new) = let a = lent.shelf in let b = goes.each.same_length in omega (arith, a, b) in
      let good : list_lies_inside old.settings.servers (size_in kind (stores new)) found.0 ≡ true =
      list_inside-to kind (stores new) old.settings enough found.0 (entries_stay P R inside_on found.0 found.2) in
      true≢false (sym good ∙ h.bad found.0 read)

  pub told_serves : (after : TablesView) (load : Load) (a : Answer) → Went old.settings.region (told_in kind old) (told_in kind new)
      (HoldsOfAdded kind (between old new) old.settings) before after → Why load a → ServesTold kind (between old new) old.settings (before, after) a
  told_serves after load a went why =
      let size : ℕ = old.settings.region in
      let was : Told = told_in kind old in
      let now : Told = told_in kind new in
      let R : List Place → Bool = is_inside kind (stores new) old.settings in
      record {
        went = went;
        names = went.carries (is_told now) refl (λ qs added. added.told)
            (tables_weaker size was (is_told was) (is_told now) (λ qs is. is_told-later was now qs (tells_on laws goes.each) is) before tells.names);
        wide = λ w. went.carries (has_copies old.settings.replicas) refl (λ qs added. copies_by old.settings.replicas qs added.wide) w;
        within = λ w. went.carries R refl (λ qs added. added.within)
            (tables_weaker size was (is_inside kind (stores old) old.settings) R inside_on before w);
        undamaged = λ w k is. no_list w k (subst (Why load) is why);
        unread = λ w k is.
            let un : IsUnread kind (between old new) old.settings (AreWide old.settings was before) k = subst (Why load) is why in
            record { places = un.places; lost = un.lost; width = λ h. un.width w };
      }
