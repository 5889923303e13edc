-- What a line sees of the stores and of the lists that are remembered.
use Rattle.std.specs.Prelude.{ℕ, List, Option, ◌≡◌}
use Rattle.wtf_base.specs.declared.slice.Slice.{Slice}
use Rattle.wtf_dev.specs.Store.{StoreKind}
use Rattle.wtf_dev.specs.Sums.{TellsAll}
use Rattle.wtf_replica.specs.Bytes.{byte_at, shown_byte}
use Rattle.wtf_replica.specs.Spans.{Span}
use Rattle.wtf_model.specs.declared.op.Op.{Op}
use Rattle.wtf_meta.specs.Contents.{Told}
use Rattle.wtf_meta.specs.Lists.{ListFact}
use Rattle.wtf_meta.specs.Maps.{Map}
use Rattle.wtf_meta.specs.Sessions.{SessionView}
use Rattle.wtf_region.specs.declared.dev.Dev.{Dev}
use Rattle.wtf_region.specs.Cached.{Remembered, TrueBut, CacheTrue, recalled}
use Rattle.wtf_region.specs.Reads.{AreListsGot}
use Rattle.wtf_compact.specs.declared.target.Target.{Target}
use Rattle.wtf_compact.specs.Planned.{StoresList}
use Rattle.wtf_replay.specs.Causes.{IsOwnOf}
use Rattle.wtf_clients.specs.Asked.{Lending, IsLent}

-- Whether the stores tell their content, `told` before the line and `later` after it; how many servers there are, and bytes of a region; the
-- lists that are remembered before the line and after it, what is known of the former, and that lists that were asked for were remembered or
-- read; and, for what a line stores, that a slice is what came of the bytes of a call, and that these lists are what a job of a region stored.
pub record Seeing : Type 1 where
  pub telling : Type 0
  pub told : Told
  pub later : Told
  pub servers : ℕ
  pub size : ℕ
  pub before : Remembered
  pub after : Remembered
  pub lists : TrueBut
  pub got : List ListFact → Type 0
  pub owns : Map → SessionView → Op (List ℕ) → Option Slice → Type 0
  pub stores : Target → List ListFact → Type 0

-- over stores of this span, for a line that is lent this
abbrev pub seeing : {S : Type 0} → StoreKind S → Span S → Lending → Seeing
seeing {S} kind t lent = record {
  telling = TellsAll kind t.before;
  told = byte_at kind t.before;
  later = byte_at kind t.after;
  servers = lent.settings.servers;
  size = lent.settings.region;
  before = lent.lists;
  after = lent.left;
  lists = λ ranges. CacheTrue (shown_byte kind t.before) lent.settings.region ranges lent.lists;
  got = AreListsGot kind t lent.settings.region lent.lists;
  owns = λ w s o own. (old : Dev S) × (new : Dev S) × IsLent t lent old new × IsOwnOf kind old new w s o own;
  stores = λ target stored. (old : Dev S) × (new : Dev S) × IsLent t lent old new × StoresList kind old new target stored;
}

-- these lists were asked for, one after another: each was remembered or was read, and what is remembered is as that leaves it
pub record Recalled (x : Seeing) (facts : List ListFact) : Type 0 where
  pub got : x.got facts
  pub left : x.after ≡ recalled facts x.before
