-- Words that ask for nothing.
use Rattle.std.proofs.Common.{◌≡◌, ◌≢◌, ℕ, Bool, ◌&&◌, not, is_none, IsNone, bytes_eq, cond, List, [], ◌∷◌, length, map, codes, Option, Some, None, refl}
use Rattle.wtf_path.specs.declared.error.PathError.{PathError}
use Rattle.wtf_path.specs.Refusals.{refusal}
use Rattle.wtf_file.specs.Words.{file_path, task_asked}

some-no_file : (o : Option PathError) (b : Bool) (word : List ℕ) → o ≢ None → cond (is_none o && b) (Some word) None ≡ None
some-no_file None b word is = absurd (is refl)
some-no_file (Some why) b word is = refl

-- a word that is refused is no file's path
pub refused-no_file : (word : List ℕ) → refusal word ≢ None → file_path word ≡ None
refused-no_file word is = some-no_file (refusal word) (not (bytes_eq word (codes "/"))) word is

-- a task is said by two words or three
pub others-no_task : {A : Type 0} (f : A → List ℕ) (ws : List A) → length ws ≢ 2 → length ws ≢ 3 → task_asked (map f ws) ≡ None
others-no_task f [] two three = refl
others-no_task f (a ∷ []) two three = refl
others-no_task f (a ∷ b ∷ []) two three = absurd (two refl)
others-no_task f (a ∷ b ∷ c ∷ []) two three = absurd (three refl)
others-no_task f (a ∷ b ∷ c ∷ d ∷ ws) two three = refl

pub none-is : (word : List ℕ) → refusal word ≡ None → IsNone (refusal word)
none-is word e = rw e refl
