use Rattle.wtf_clients.proofs.Common.{any_slice, stores, is_inside, TablesView, sym, subst, Fault, OutOfMemory, StoreKind, KindLaws, IsRing, Store, Key, Value}
use Rattle.wtf_clients.proofs.Common.{Answer, Event, MapBytes, metadata_at, Dev, IsSoundDev, GoesOn, remembered, told_in, between, RemembersTrue, OnlyRead}
use Rattle.wtf_clients.proofs.Common.{fault_answer, KeepsMaps, KeepsVersions, KeepsPins, IsDumped, IsDumpAnswer, LacksDump, ReadsNoList, Line, line, seen_in}
use Rattle.wtf_clients.proofs.Common.{LineOf, any_byte, no_slice, has_copies, no_load, AreBased, AreFull, AreSound, IsAlike, TablesStay, DumpReads}
use Rattle.wtf_clients.proofs.Common.{metadata_now, ◌≡◌, ◌⊎◌, ℕ, [], List, Some, Result, Ok, IfOk, inl, inr, refl, ap, ◌∙◌, arith}
use Rattle.wtf_clients.proofs.{Lives.AreInside, Lives.now_bytes, Lives.tables_of, Lining.line_of, Caused.has_failed, Dumping.true_now, Dumping.dump_may}
use Rattle.wtf_clients.proofs.{Dumping.dump_plain, Dumping.dump_caused, Known.lent_to, Known.recalled_in, Lacking.no_lists, Leaving.leaves_read}
use Rattle.wtf_clients.proofs.{Lining.answered_line}
use Rattle.wtf_clients.proofs.{Lining.failed_line, Lists.sets_same, Serving.read_serves, Serving.read_failed, Serving.stays_names, Serving.past_memory}
use Rattle.wtf_clients.proofs.{Staying.stays_sound, ToldServing.plain_told, ToldServing.stays_told, ToldServing.dump_why}
use Rattle.wtf_clients.proofs.tables.Tables.dump.Given.{Over}
use Rattle.wtf_clients.proofs.tables.Tables.dump.Goals as goal
use Rattle.wtf_clients.proofs.tables.Tables.dump.Goals.{After-dump_now}

-- ---- what a dump does, by what was read for it
-- all but the store of versions is what it was, and that shows the same
module _ {S : Type 0} {kind : StoreKind S} (laws : KindLaws kind) (dev new : Dev S) (lent : IsSoundDev kind dev)
    (ring : IsRing dev.settings.servers dev.ring.now.points) (old : TablesView) (sound : AreSound old) (inside : AreInside kind dev old) (p : List ℕ)
    (kv : Store Key Value) (number : kv.number ≡ old.kv.number) (maps : KeepsMaps old.kv kv) (versions : KeepsVersions old.kv kv) (pins : KeepsPins old.kv kv)
    (reads : OnlyRead kind (between dev new)) (goes : GoesOn kind dev new [])
    (lists : ReadsNoList dev.settings.region old (Event.Dump p) → remembered new ≡ remembered dev) where
  abbrev after : TablesView
  after = record old { kv = kv }

  abbrev dumping : Line S
  dumping = line kind dev new old after

  dump_stays : (c : ℕ) → TablesStay old after c
  dump_stays c = record {
    clients = sets_same c old.clients old.clients refl;
    number = number;
    maps = maps;
    versions = versions;
    pins = pins;
    next_tx = refl;
    beside = refl;
  }

  -- the tables are as sound as they were
  dump_sound : AreSound (record old { kv = kv })
  dump_sound = stays_sound old after 0 sound (dump_stays 0)

  dump_alike : IsAlike old after
  dump_alike = record {
    clients = refl;
    number = number;
    map = ap (metadata_at kv) number ∙ maps old.kv.number (omega arith);
    versions = versions;
    pins = pins;
    next_tx = refl;
    beside = refl;
  }

  inside_now : MapBytes (is_inside kind (stores dev) dev.settings) any_slice (metadata_now old.kv)
  inside_now = now_bytes (is_inside kind (stores dev) dev.settings) any_slice old inside

  dump_line : (a : Answer) → IsDumped dev.settings.region (told_in kind dev) (RemembersTrue kind dev) (metadata_now old.kv) p a → IsDumpAnswer a
      → DumpReads (seen_in dumping) (metadata_now old.kv) p a → LineOf dumping (Event.Dump p) (Ok a)
  dump_line a shows answered facts = answered_line dumping (Event.Dump p) a
      (record {
        turn = record {
          stays = dump_stays;
          answered = inl (answered, facts);
          shows = λ kept tx k t st. inl (shows (true_now old dev.settings.region (told_in kind dev) (RemembersTrue kind dev) kept) tx k t st);
        };
        serves = read_serves laws dev new goes lent old sound inside after _ _ _ a
            (stays_names laws dev new goes lent old sound inside after 0 (dump_stays 0)) reads (dump_plain a answered);
        told = λ tells. plain_told laws dev new goes lent old sound inside tells after 0 a (dump_stays 0) (dump_plain a answered);
      })
      (leaves_read kind dev new old (Event.Dump p) reads goes lists) goes

  dump_lost : (why : Fault) (r : Result Answer OutOfMemory) → IfOk r (λ a. fault_answer why ≡ Some a)
      → (why ≡ Fault.Memory) ⊎ LacksDump kind dev new (metadata_now old.kv) p why → LineOf dumping (Event.Dump p) r
  dump_lost why r is lacks = failed_line dumping (Event.Dump p) why r is
      (λ a same. record {
        turn = record {
          stays = dump_stays;
          answered = inr (why, same);
          shows = λ kept tx k t st. inr (dump_may laws dev new lent (metadata_now old.kv) p inside_now why a (told_in kind dev) tx k t same lacks st);
        };
        serves = read_failed laws dev new goes lent old sound inside after _ _ _ a
            (stays_names laws dev new goes lent old sound inside after 0 (dump_stays 0)) reads
            (dump_caused laws dev new lent (metadata_now old.kv) p inside_now (AreBased old) (AreFull dev.settings old) no_slice
            (λ Q based. now_bytes any_byte Q old based) (now_bytes (has_copies dev.settings.replicas) no_slice old)
            (λ i n h ps q. no_lists (has_copies dev.settings.replicas) q.facts) why a same lacks)
            (has_failed _ why a same (dev, new, lent_to dev new ring, past_memory why a same lacks));
        told = λ tells. stays_told laws dev new goes lent old sound inside tells after 0 no_load a (dump_stays 0)
            (dump_why laws dev new goes lent old sound inside tells p why a same lacks);
      })
      (leaves_read kind dev new old (Event.Dump p) reads goes lists) dump_alike goes

-- the tables before it
abbrev old : (g : Over) → After-dump_now g → TablesView
old g c = tables_of c.self.inside

inside : (g : Over) (c : After-dump_now g) → AreInside g.S.SliceStore.kind c.args.dev.now (old g c)
inside g c = subst (AreInside g.S.SliceStore.kind c.args.dev.now) (sym c.self.view_is) c.requires.inside

pub dump_now-requires-clause-inside : goal.dump_now-requires-clause-inside
dump_now-requires-clause-inside g c =
    let dev = c.args.dev.now in
    now_bytes (is_inside g.S.SliceStore.kind (stores dev) dev.settings) any_slice _
    (subst (AreInside g.S.SliceStore.kind dev) (sym c.self.view_is) c.requires.inside)

pub returns-in-Ok : goal.returns-in-Ok
returns-in-Ok g c =
    let at = (goal.at.returns-in-Ok g c).After-dump_now in
    let did = c.in-Ok.ensures in
    line_of c.self.view_is
    (dump_line g.met.S.SliceStore.laws c.args.dev.now c.dump_now.new.dev c.requires.dev c.requires.ring (old g at) c.self.invariant (inside g at) c.args.p.now
    c.dump_now.new.kv did.number did.maps did.versions did.pins did.reads did.dev did.lists c.in-Ok.answer did.shows did.answered
    (record { facts = did.read.facts; recalls = recalled_in _ c.args.dev.now c.dump_now.new.dev did.read.facts did.read.recalls; wants = did.read.wants }))

pub invariant_of-self : goal.invariant_of-self
invariant_of-self g c =
    let at = (goal.at.invariant_of-self g c).After-dump_now in
    let did = c.in-Ok.ensures in
    dump_sound g.met.S.SliceStore.laws c.args.dev.now c.dump_now.new.dev c.requires.dev c.requires.ring (old g at) c.self.invariant (inside g at) c.args.p.now
    c.dump_now.new.kv did.number did.maps did.versions did.pins did.reads did.dev did.lists

pub returns-in-Err : goal.returns-in-Err
returns-in-Err g c =
    let at = (goal.at.returns-in-Err g c).After-dump_now in
    let did = c.in-Err.ensures in
    line_of c.self.view_is
    (dump_lost g.met.S.SliceStore.laws c.args.dev.now c.dump_now.new.dev c.requires.dev c.requires.ring (old g at) c.self.invariant (inside g at) c.args.p.now
    c.dump_now.new.kv did.number did.maps did.versions did.pins did.reads did.dev did.lists c.in-Err.why c.answer_to.result c.answer_to.ensures.answer
    did.fault)

pub invariant_of-self-in-Err : goal.invariant_of-self-in-Err
invariant_of-self-in-Err g c =
    let at = (goal.at.invariant_of-self-in-Err g c).After-dump_now in
    let did = c.in-Err.ensures in
    dump_sound g.met.S.SliceStore.laws c.args.dev.now c.dump_now.new.dev c.requires.dev c.requires.ring (old g at) c.self.invariant (inside g at) c.args.p.now
    c.dump_now.new.kv did.number did.maps did.versions did.pins did.reads did.dev did.lists
