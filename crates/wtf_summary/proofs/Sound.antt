-- Laws of what a sink that sums up keeps.
use Rattle.std.proofs.Common.{◌≡◌, ℕ, zero, suc, ◌+◌, ◌^◌, ◌==◌, ◌<◌, ◌≤◌, Bool, true, false, cond, nat_lt, nat_le, List, [], ◌∷◌, ◌++◌, length, take, drop, Some, inl, inr, refl, sym, ◌∙◌, ap, arith, append_assoc}
use Rattle.std.proofs.lemmas.Bool.{cases_eq}
use Rattle.std.proofs.lemmas.List.{append-nil}
use Rattle.wtf_dev.specs.Counts.{Rose, risen}
use Rattle.wtf_dev.specs.Streams.{SinkView}
use Rattle.wtf_script.specs.ScriptLines.{line_feed}
use Rattle.wtf_summary.specs.Summaries.{feeds, behind_first, front_lines, shown_text}
use Rattle.wtf_summary.specs.Tallies.{Tallies}
use Rattle.wtf_summary.specs.Traces.{numbers_of}
use Rattle.wtf_summary.specs.States.{SinkStands}
use Rattle.wtf_summary.proofs.Lines.{feeds-byte, feeds-push, other_byte}
use Rattle.wtf_summary.proofs.Texts.{behind_first-more, feeds-front_lines, front_lines-few}
use Rattle.wtf_summary.specs.declared.state.State.{State}

-- while nothing failed, the other sink took what is shown
pub clean : (now : SinkView) (s : State) → SinkStands now s → s.faults ≡ 0 → s.trace.seen.numbers ≡ shown_text s.lines s.trace.text.numbers
clean now s sound f =
    sym (append-nil s.trace.seen.numbers) ∙ ap (λ (l : List ℕ). s.trace.seen.numbers ++ l) (sym (sound.all f)) ∙ sound.shows
    ∙ ap (shown_text s.lines) (ap (λ (l : List ℕ). s.trace.text.numbers ++ l) (sound.whole f) ∙ append-nil s.trace.text.numbers)

pub clean_shows : (lines : ℕ) (seen rest text more : List ℕ) → seen ≡ shown_text lines text → rest ≡ [] → more ≡ []
    → seen ++ rest ≡ shown_text lines (text ++ more)
clean_shows lines seen rest text more h r m =
    ap (λ (l : List ℕ). seen ++ l) r ∙ append-nil seen ∙ h ∙ ap (shown_text lines) (sym (ap (λ (l : List ℕ). text ++ l) m ∙ append-nil text))

pub none_begun : (b : Bool) (n : ℕ) → b ≡ nat_lt 0 n → b ≡ false → n ≡ 0
none_begun b n h f = grind (arith, h, f)

pub some_begun : (b : Bool) (n : ℕ) → b ≡ nat_lt 0 n → b ≡ true → 0 < n
some_begun b n h f = grind (arith, h, f)

pub begun_all : (n : ℕ) → 0 < n → true ≡ nat_lt 0 n
begun_all n h = grind (arith, h)

pub begun_byte : (t : Bool) (n : ℕ) → n ≡ 0 → t ≡ nat_lt 0 (n + cond t 1 0)
begun_byte true n h = grind (arith, h)
begun_byte false n h = grind (arith, h)

-- one byte is taken, or none
pub one_taken : (n : ℕ) (bytes : List ℕ) (b : ℕ) → bytes ≡ b ∷ [] → n ≤ length bytes → (0 < length bytes → 0 < n) → take n bytes ≡ b ∷ []
one_taken n bytes b e h p =
    let l : length bytes ≡ 1 = ap length e in
    let one : n ≡ 1 = omega (arith, h, l, p (omega (arith, l))) in
    ap (λ (k : ℕ). take k bytes) one ∙ ap (take 1) e

-- more bytes on the other sink
pub added_more : (now0 now1 : SinkView) (first seen more : List ℕ)
    → ((old : SinkView) (before : List ℕ) → first ≡ numbers_of old → old.taken ≡ Some before → now0.taken ≡ Some (before ++ seen))
    → ((b : List ℕ) → now0.taken ≡ Some b → now1.taken ≡ Some (b ++ more))
    → (old : SinkView) (before : List ℕ) → first ≡ numbers_of old → old.taken ≡ Some before → now1.taken ≡ Some (before ++ (seen ++ more))
added_more now0 now1 first seen more a t old before h e = t (before ++ seen) (a old before h e) ∙ ap Some (append_assoc before seen more)

pub sound_clean : (now : SinkView) (s : State) → 1 ≤ s.lines → s.lines < 2 ^ 64 → s.begun ≡ nat_lt 0 (feeds s.trace.text.numbers)
    → Tallies s.tally (front_lines s.lines (behind_first s.trace.text.numbers)) → s.trace.seen.numbers ≡ shown_text s.lines s.trace.text.numbers
    → s.trace.rest.numbers ≡ [] → s.trace.more.numbers ≡ [] → s.faults ≡ 0
    → ((old : SinkView) (before : List ℕ) → s.trace.first.numbers ≡ numbers_of old → old.taken ≡ Some before → now.taken ≡ Some (before ++ s.trace.seen.numbers))
    → ((old : SinkView) → s.trace.first.numbers ≡ numbers_of old → now.faults ≡ old.faults)
    → SinkStands now s
sound_clean now s some few begun tally shows rest more f added still = record {
  some = some;
  few = few;
  begun = begun;
  tally = λ _. tally;
  shows = clean_shows s.lines s.trace.seen.numbers s.trace.rest.numbers s.trace.text.numbers s.trace.more.numbers shows rest more;
  all = λ _. rest;
  whole = λ _. more;
  ended = inl more;
  added = added;
  counted = λ old h. omega (arith, still old h);
  still = λ old h _. still old h;
  rose = λ old h z. absurd (omega (arith, f, z));
}

pub take_drop : (n : ℕ) (l : List ℕ) → take n l ++ drop n l ≡ l
take_drop zero l = refl
take_drop (suc n) [] = refl
take_drop (suc n) (x ∷ xs) = ap (λ (t : List ℕ). x ∷ t) (take_drop n xs)

pub empty_test : (l : List ℕ) (t : Bool) → t ≡ (length l == 0) → t ≡ true → l ≡ []
empty_test [] t h e = refl
empty_test (x ∷ xs) t h e = absurd (grind (arith, h, e))

pub filled : (l : List ℕ) (t : Bool) → t ≡ (length l == 0) → t ≡ false → 0 < length l
filled [] t h e = grind (arith, h, e)
filled (x ∷ xs) t h e = omega arith

-- what a byte behind the first line keeps
pub record Keeps (old new : State) : Type 0 where
  pub lines : new.lines ≡ old.lines
  pub begun : new.begun ≡ old.begun
  pub first : new.trace.first.numbers ≡ old.trace.first.numbers
  pub rest : new.trace.rest.numbers ≡ old.trace.rest.numbers
  pub more : new.trace.more.numbers ≡ old.trace.more.numbers
  pub faults : new.faults ≡ old.faults

-- a byte behind the first line, with which so much more is shown
pub took : (before now : SinkView) (old new : State) (b : ℕ) (added : List ℕ) → SinkStands before old → old.faults ≡ 0 → old.begun ≡ true → Keeps old new
    → new.trace.text.numbers ≡ old.trace.text.numbers ++ b ∷ []
    → new.trace.seen.numbers ≡ old.trace.seen.numbers ++ added
    → shown_text old.lines (old.trace.text.numbers ++ b ∷ []) ≡ shown_text old.lines old.trace.text.numbers ++ added
    → Tallies new.tally (front_lines old.lines (behind_first old.trace.text.numbers ++ b ∷ []))
    → ((l : List ℕ) → before.taken ≡ Some l → now.taken ≡ Some (l ++ added)) → now.faults ≡ before.faults → SinkStands now new
took before now old new b added s f begun k text seen shows tally told faults =
    let some = some_begun _ _ s.begun begun in
    let t = old.trace.text.numbers in
    sound_clean now new
    (rw k.lines s.some)
    (rw k.lines s.few)
    (k.begun ∙ begun ∙ begun_all _ (rw text (omega (arith, some, feeds-push t b))))
    (rw (text, k.lines, behind_first-more t (b ∷ []) some) tally)
    (seen ∙ ap (λ (l : List ℕ). l ++ added) (clean before old s f) ∙ sym shows ∙ sym (rw (text, k.lines) refl))
    (k.rest ∙ s.all f)
    (k.more ∙ s.whole f)
    (k.faults ∙ f)
    (rw (seen, k.first) (added_more before now old.trace.first.numbers old.trace.seen.numbers added s.added told))
    (rw k.first (λ o h. faults ∙ s.still o h f))

-- the summary could not be shown whole
pub failed : (before now : SinkView) (old new : State) (b : ℕ) (added : List ℕ) → SinkStands before old → old.faults ≡ 0
    → new.lines ≡ old.lines → new.begun ≡ old.begun → new.trace.first.numbers ≡ old.trace.first.numbers → new.trace.text.numbers ≡ old.trace.text.numbers
    → new.trace.seen.numbers ++ new.trace.rest.numbers ≡ old.trace.seen.numbers ++ added
    → new.trace.more.numbers ≡ b ∷ [] → b ≡ line_feed
    → shown_text old.lines (old.trace.text.numbers ++ b ∷ []) ≡ shown_text old.lines old.trace.text.numbers ++ added
    → new.faults ≡ risen old.faults → Rose before.faults now.faults → before.faults ≤ now.faults
    → ((l : List ℕ) → before.taken ≡ Some (l ++ old.trace.seen.numbers) → now.taken ≡ Some (l ++ new.trace.seen.numbers)) → SinkStands now new
failed before now old new b added s f lines begun first text seen more feed shows faults rose counted told =
    let one : new.faults ≡ 1 = faults ∙ ap risen f in
    record {
      some = rw lines s.some;
      few = rw lines s.few;
      begun = rw (begun, text) s.begun;
      tally = λ z. absurd (omega (arith, z, one));
      shows = seen ∙ ap (λ (l : List ℕ). l ++ added) (clean before old s f) ∙ sym shows ∙ sym (rw (lines, text, more) refl);
      all = λ z. absurd (omega (arith, z, one));
      whole = λ z. absurd (omega (arith, z, one));
      ended = inr (more ∙ ap (λ (n : ℕ). n ∷ []) feed);
      added = rw first (λ o l h e. told l (s.added o l h e));
      counted = rw first (λ o h. omega (arith, s.counted o h, counted));
      still = λ o h z. absurd (omega (arith, z, one));
      rose = rw first (λ o h z m. omega (arith, s.counted o h, rose m));
    }

open_by : (t : Bool) (a b : ℕ) → nat_le a b ≡ t → (a ≤ b → ⊥) → b < a
open_by true a b h f = absurd (f (grind (arith, h)))
open_by false a b h f = grind (arith, h)

-- not all lines came, or they did
pub open_feeds : (lines : ℕ) (behind : List ℕ) (n : ℕ) → n ≡ feeds (front_lines lines behind) → (n ≡ lines → ⊥) → feeds behind < lines
open_feeds lines behind n e f = open_by _ lines (feeds behind) refl (λ h. f (e ∙ feeds-front_lines lines behind h))

done_by : (t : Bool) (a b : ℕ) → nat_le a b ≡ t → (b < a → ⊥) → a ≤ b
done_by true a b h f = grind (arith, h)
done_by false a b h f = absurd (f (grind (arith, h)))

pub done_feeds : (lines : ℕ) (behind : List ℕ) (n : ℕ) → n ≡ feeds (front_lines lines behind) → n ≡ lines → lines ≤ feeds behind
done_feeds lines behind n e f = done_by _ lines (feeds behind) refl (λ h. omega (arith, h, e, f, ap feeds (front_lines-few lines behind h)))

-- the byte that completes a summary ends a line
pub ends_line : (lines : ℕ) (behind : List ℕ) (b : ℕ) → feeds behind < lines → lines ≤ feeds (behind ++ b ∷ []) → b ≡ line_feed
ends_line lines behind b few all = elim (cases_eq b line_feed) [
  | inl is ↦ is
  | inr ne ↦ absurd (omega (arith, few, all, feeds-byte behind b (other_byte b ne)))
]

-- the other sink was called and took no byte
pub unmoved : (before now : SinkView) (s : State) → SinkStands before s → ((l : List ℕ) → before.taken ≡ Some l → now.taken ≡ Some l)
    → now.faults ≡ before.faults → SinkStands now s
unmoved before now s sound told same = record {
  some = sound.some;
  few = sound.few;
  begun = sound.begun;
  tally = sound.tally;
  shows = sound.shows;
  all = sound.all;
  whole = sound.whole;
  ended = sound.ended;
  added = λ o l h e. told (l ++ s.trace.seen.numbers) (sound.added o l h e);
  counted = λ o h. omega (arith, sound.counted o h, same);
  still = λ o h z. same ∙ sound.still o h z;
  rose = λ o h z m. omega (arith, sound.rose o h z (omega (arith, m, same)), same);
}
