-- What the words behind the program's name ask for.
use Rattle.std.specs.Prelude.{◌≤◌, ◌&&◌, not, is_none, bytes_eq, if◌then◌else◌, ℕ, List, [], ◌∷◌, Option, Some, None, option_and_then, option_map, codes}
use Rattle.wtf_lex.specs.Numbers.{number_within}
use Rattle.wtf_path.specs.Refusals.{refusal}
use Rattle.wtf_model.specs.declared.limits.TheConstants.{MAX_NUMBER}
use Rattle.wtf_file.specs.declared.task.Task.{Task}
use Rattle.wtf_file.specs.declared.task.Task.TheVariants as task

-- the path that a word spells, where the grammar of paths refuses nothing of it, and it is not the root
abbrev pub file_path : List ℕ → Option (List ℕ)
file_path word = if is_none (refusal word) && not (bytes_eq word (codes "/")) then Some word else None

abbrev pub put_task : List ℕ → Option Task
put_task path = option_map task.Put (file_path path)

abbrev pub reads_task : List ℕ → List ℕ → Option Task
reads_task path len = option_and_then (λ n. option_map (λ p. task.Reads p n) (file_path path)) (number_within MAX_NUMBER len)

abbrev pub get_task : List ℕ → Option Task
get_task len = option_map task.Get (number_within MAX_NUMBER len)

-- the task of a verb and one word
abbrev pub short_task : List ℕ → List ℕ → Option Task
short_task verb word = if bytes_eq verb (codes "put") then put_task word else (if bytes_eq verb (codes "get") then get_task word else None)

-- the task of a verb and two words
abbrev pub long_task : List ℕ → List ℕ → List ℕ → Option Task
long_task verb path len = if bytes_eq verb (codes "reads") then reads_task path len else None

-- what the words ask for: `put PATH`, `reads PATH LEN` or `get LEN`, and nothing else
abbrev pub task_asked : List (List ℕ) → Option Task
task_asked (verb ∷ word ∷ []) = short_task verb word
task_asked (verb ∷ path ∷ len ∷ []) = long_task verb path len
task_asked words = None

-- a length is a number that a line can name
abbrev pub HasNamedLength : Task → Type 0
HasNamedLength (task.Put path) = Unit {0}
HasNamedLength (task.Reads path len) = len ≤ MAX_NUMBER
HasNamedLength (task.Get len) = len ≤ MAX_NUMBER
