-- What a save made of the bytes that the tables name, and of the stores.
use Rattle.wtf_clients.proofs.Common.{Fault, EachFollows, SameLengths, Remembered, inside_later, metadata_at, BesideView, TablesBytes, NamesTables, ServesEvent}
use Rattle.wtf_clients.proofs.Common.{Settings, KindLaws, of_label, AreSound, any_byte, no_slice, lending, HasFailed, SaveFault, HasCause, SaveTurn, AreBased}
use Rattle.wtf_clients.proofs.Common.{StoreKind, Answer, is_inside, map_later, any_slice, TablesView, of_client, has_copies, line_asked, with_image, only_image}
use Rattle.wtf_clients.proofs.Common.{span, Event, no_load, Saves, AreFull, ◌≡◌, ◌≤◌, ℕ, Bool, List, [], length, Some, refl, sym, ap, ◌∙◌, inl, inr}
use Rattle.wtf_clients.proofs.{Caused.none_placed, Caused.none_added, Lives.now_bytes, Lives.Reaches, Lives.saved_reaches, Lives.same_kept, Lives.added_kept}
use Rattle.wtf_clients.proofs.{Lives.only_kept, Naming.value_later, Naming.now_along, Naming.live_along, Naming.txn_along}

-- the transactions, the jobs and the maps stay
saves_names : (old new : TablesView) (now : BesideView) → now.jobs ≡ old.beside.jobs → AreSound old → Reaches old.kv new.kv → Saves old new now
    → NamesTables old new
saves_names old new now jobs sound reach saves P Q hole h = record {
  live = live_along P Q old new sound saves.maps reach h (now_along P Q old.kv new.kv saves.number saves.maps (now_bytes P Q old h));
  each = λ c x there.
      let was : of_client old.clients c ≡ Some x = ap (λ l. of_client l c) (sym saves.clients) ∙ there in
      txn_along P Q old.kv new.kv x (saves.maps x.at.base (sound.each c x was).based) (h.each c x was);
  planned = λ j x there. h.planned j x (ap (λ l. of_label l j) (sym jobs ∙ sym (ap (λ (b : BesideView). b.jobs) saves.beside)) ∙ there);
}

pub save_names : (Up : Type 0) (old new : TablesView) (a : Answer) → AreSound old → SaveTurn Up old new a → NamesTables old new
save_names Up old new (Answer.Saved n) sound (number, up, saves) = saves_names old new (only_image old.beside n) refl sound
    (saved_reaches old new (only_image old.beside n) (λ k. only_kept old n k number) saves) saves
save_names Up old new Answer.FaultSave sound (inl saves) = saves_names old new old.beside refl sound (saved_reaches old new old.beside (same_kept old) saves)
    saves
save_names Up old new Answer.FaultSave sound (inr saves) =
    saves_names old new (with_image old.beside old.kv.number) refl sound (saved_reaches old new (with_image old.beside old.kv.number) (added_kept old) saves)
    saves
save_names Up old new a sound turn = absurd turn

-- a save answers no other fault
save_failed : (Up : Type 0) (old new : TablesView) (fails : Fault → Type 0) (a : Answer) → SaveTurn Up old new a → HasFailed fails a
save_failed Up old new fails (Answer.Saved n) turn = tt
save_failed Up old new fails Answer.FaultSave turn = tt
save_failed Up old new fails a turn = absurd turn

module _ {S : Type 0} {kind : StoreKind S} (laws : KindLaws kind) (down : ℕ → Bool) (before after : List S) (goes : EachFollows kind before after [])
    (lengths : SameLengths kind before after) (settings : Settings) (enough : settings.servers ≤ length before)
    (Up rose : Type 0) (old new : TablesView) (sound : AreSound old) (inside : TablesBytes (is_inside kind before settings) any_slice old) where
  -- what lies inside the stores goes on doing so
  inside_on : TablesBytes (is_inside kind after settings) any_slice old
  inside_on = record {
    live = λ n is. map_later laws goes settings enough (metadata_at old.kv n) (inside.live n is);
    each = λ c x is. inside_later laws goes settings enough old.kv x (inside.each c x is);
    planned = λ j x is. value_later laws goes settings enough x.value (inside.planned j x is);
  }

  pub save_serves : (a : Answer) → SaveTurn Up old new a → HasCause kind (span down before after) settings
      (SaveFault kind (span down before after) settings rose Event.Save) (AreBased old) (AreFull settings old) no_load a
      → (lists : Remembered) → ServesEvent kind (span down before after) (lending settings lists lists) rose (old, new) Event.Save a
  save_serves a turn caused lists = record {
    inside = save_names Up old new a sound turn (is_inside kind after settings) any_slice refl inside_on;
    bare = λ free. save_names Up old new a sound turn any_byte no_slice refl;
    full = λ free. save_names Up old new a sound turn (has_copies settings.replicas) no_slice refl;
    adds = none_added kind (span down before after) settings a lengths;
    caused = caused;
    placed = none_placed kind (span down before after) settings (line_asked kind (span down before after) (lending settings lists lists) old Event.Save) a refl;
    failed = save_failed Up old new (line_asked kind (span down before after) (lending settings lists lists) old Event.Save).fails a turn;
  }
