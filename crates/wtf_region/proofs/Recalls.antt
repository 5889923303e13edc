-- Where lists come from, over the parts of a call. `recalls_same kind old new` asks nothing of the stores; the laws of their kind come first in the
-- others: `recalls_on laws first next fs gs` joins two parts, and `recalls_later laws first next fs` is of a second part that asks for no list.
use Rattle.std.proofs.Common.{◌≡◌, ℕ, Bool, List, [], ◌∷◌, ◌++◌, sym, ap, ◌∙◌, subst, inl, inr}
use Rattle.wtf_base.specs.declared.settings.Settings.{Settings}
use Rattle.wtf_base.specs.declared.slice.Slice.{Slice}
use Rattle.wtf_dev.specs.Store.{StoreKind, KindLaws}
use Rattle.wtf_overlay.specs.Spilled.{decoded}
use Rattle.wtf_overlay.specs.declared.part.Entry.{Entry}
use Rattle.wtf_replica.specs.Copies.{IsFetched}
use Rattle.wtf_replica.specs.Downs.{is_down}
use Rattle.wtf_replica.specs.Spans.{Span, span}
use Rattle.wtf_replica.proofs.Spans.{each_kept, fetched_on, fetched_since}
use Rattle.wtf_meta.specs.Lists.{ListFact}
use Rattle.wtf_region.specs.declared.dev.Dev.{Dev}
use Rattle.wtf_region.specs.Cached.{Remembered, cached, recalled_one, recalled}
use Rattle.wtf_region.specs.Devs.{GoesOn, stores, remembered, is_down_in, between}
use Rattle.wtf_region.specs.Reads.{IsListFetched, AreListsGot, Recalls}
use Rattle.wtf_region.proofs.Recalling.{recalled_on}

-- no list was asked for
pub recalls_same : {S : Type 0} (kind : StoreKind S) (old new : Dev S) → remembered new ≡ remembered old → Recalls kind old new []
recalls_same kind old new same = record { got = tt; left = same }

-- what is read in a span is read in a wider one
abbrev Wider : {S : Type 0} → StoreKind S → (t u : Span S) → Type 0
Wider kind t u = (s : Slice) (bytes : List ℕ) (k : ℕ) → IsFetched kind t s 0 bytes k → IsFetched kind u s 0 bytes k

fetched_wider : {S : Type 0} (kind : StoreKind S) (t u : Span S) (b : ℕ) (had : Remembered) (s : Slice) (es : List Entry) → Wider kind t u
    → IsListFetched kind t b had s es → IsListFetched kind u b had s es
fetched_wider kind t u b had s es wider h = record {
  uncached = h.uncached;
  bytes = h.bytes;
  server = h.server;
  whole = h.whole;
  fetched = wider s h.bytes h.server h.fetched;
  decodes = h.decodes;
}

got_wider : {S : Type 0} (kind : StoreKind S) (t u : Span S) (b : ℕ) (had : Remembered) (fs : List ListFact) → Wider kind t u
    → AreListsGot kind t b had fs → AreListsGot kind u b had fs
got_wider kind t u b had [] wider h = tt
got_wider kind t u b had (f ∷ fs) wider h = (
  elim h.0 [
    | inl was ↦ inl was
    | inr read ↦ inr (fetched_wider kind t u b had f.slice f.list wider read)
  ],
  got_wider kind t u b (recalled_one f had) fs wider h.1,
)

got_more : {S : Type 0} (kind : StoreKind S) (t : Span S) (b : ℕ) (had : Remembered) (fs gs : List ListFact) → AreListsGot kind t b had fs
    → AreListsGot kind t b (recalled fs had) gs → AreListsGot kind t b had (fs ++ gs)
got_more kind t b had [] gs first next = next
got_more kind t b had (f ∷ fs) gs first next = (first.0, got_more kind t b (recalled_one f had) fs gs first.1 next)

module _ {S : Type 0} {kind : StoreKind S} (laws : KindLaws kind) where
  wider_on : {old mid new : Dev S} → GoesOn kind old mid [] → GoesOn kind mid new [] → Wider kind (between old mid) (between old new)
  wider_on {old = old} {mid = mid} {new = new} g h s bytes k f =
      fetched_on kind (is_down_in old) (stores old) (stores mid) (stores new) g.each.same_length (each_kept laws h.each) s 0 bytes k f

  wider_since : {old mid : Dev S} (new : Dev S) → GoesOn kind old mid [] → Wider kind (between mid new) (between old new)
  wider_since {old = old} {mid = mid} new g s bytes k f =
      fetched_since kind (is_down_in old) (stores old) (stores mid) (stores new) g.each.same_length (each_kept laws g.each) s 0 bytes k
      (subst (λ (down : ℕ → Bool). IsFetched kind (span down (stores mid) (stores new)) s 0 bytes k) (ap (λ r. is_down r.now) g.replicas) f)

  -- a list that was read after a look at what is remembered, and before it came to be so itself
  pub list_within : {old mid next new : Dev S} → GoesOn kind old mid [] → GoesOn kind mid next [] → GoesOn kind next new [] → (s : Slice) (es : List Entry)
      → remembered mid ≡ remembered old → IsListFetched kind (between mid next) mid.settings.region (remembered mid) s es
      → IsListFetched kind (between old new) old.settings.region (remembered old) s es
  list_within {old = old} {mid = mid} {next = next} {new = new} f g h s es same read = record {
    uncached = ap (λ (l : Remembered). cached l s) (sym same) ∙ read.uncached;
    bytes = read.bytes;
    server = read.server;
    whole = read.whole;
    fetched = wider_since new f s read.bytes read.server (wider_on g h s read.bytes read.server read.fetched);
    decodes = ap (λ (st : Settings). decoded st.region read.bytes) (sym f.settings) ∙ read.decodes;
  }

  -- lists were asked for, and then others
  pub recalls_on : {old mid new : Dev S} → GoesOn kind old mid [] → GoesOn kind mid new [] → (fs gs : List ListFact)
      → Recalls kind old mid fs → Recalls kind mid new gs → Recalls kind old new (fs ++ gs)
  recalls_on {old = old} {mid = mid} {new = new} g h fs gs first next =
      let t : Span S = between old new in
      let late : AreListsGot kind t mid.settings.region (remembered mid) gs =
      got_wider kind (between mid new) t mid.settings.region (remembered mid) gs (wider_since new g) next.got in
      let here : AreListsGot kind t old.settings.region (recalled fs (remembered old)) gs =
      subst (λ (had : Remembered). AreListsGot kind t old.settings.region had gs) first.left
      (subst (λ (st : Settings). AreListsGot kind t st.region (remembered mid) gs) g.settings late) in
      record {
        got = got_more kind t old.settings.region (remembered old) fs gs
            (got_wider kind (between old mid) t old.settings.region (remembered old) fs (wider_on g h) first.got) here;
        left = recalled_on fs gs (remembered old) (remembered mid) (remembered new) first.left next.left;
      }

  -- and then no other
  pub recalls_later : {old mid new : Dev S} → GoesOn kind old mid [] → GoesOn kind mid new [] → (fs : List ListFact)
      → Recalls kind old mid fs → remembered new ≡ remembered mid → Recalls kind old new fs
  recalls_later {old = old} {mid = mid} {new = new} g h fs first same = record {
    got = got_wider kind (between old mid) (between old new) old.settings.region (remembered old) fs (wider_on g h) first.got;
    left = same ∙ first.left;
  }
