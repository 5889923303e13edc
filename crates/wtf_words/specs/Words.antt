-- What the words ask for.
use Rattle.std.specs.Prelude.{ℕ, ◌≤◌, ◌-◌, ◌^◌, ◌&&◌, ⊤, Bool, true, nat_le, if◌then◌else◌, List, [], ◌∷◌, Option, Some, None, option_and_then, option_map, codes}
use Rattle.std.specs.Option.{option_map_or}
use Rattle.clap.specs.Words.{App, Row, Rule, Text, fault_of, first_of, matches_of, new_app, new_rule, with_rule}
use Rattle.clap.specs.Simple.{on_top}
use Rattle.clap.specs.Kinds.{Kinds}
use Rattle.clap.specs.declared.builder.action.ArgAction.TheVariants.{Set}
use Rattle.wtf_base.specs.declared.settings.Settings.{Settings}
use Rattle.wtf_lex.specs.Numbers.{number_within}
use Rattle.wtf_words.specs.declared.Asked.{Asked}
use Rattle.wtf_words.specs.declared.Script.{Script}
use Rattle.wtf_words.specs.declared.Script.TheVariants as script

-- an option that has one value, and stands at most once
abbrev pub option_rule : Text → Rule
option_rule name = record (new_rule name) { long = Some name; action = Some Set }

-- a command without a help option, of which the first word is an argument
abbrev pub bare_app : Text → App
bare_app name = on_top (λ s. record s { no_binary_name = true; disable_help_flag = true }) (new_app name)

-- the command with the options of the settings
abbrev pub settings_app : App
settings_app = with_rule (with_rule (with_rule (bare_app (codes "wtf")) (option_rule (codes "servers"))) (option_rule (codes "replicas"))) (option_rule (codes "region"))

-- the command that the words are those of: the same, and the options of a script that is made from a number
abbrev pub wtf_app : App
wtf_app = with_rule (with_rule settings_app (option_rule (codes "gen"))) (option_rule (codes "lines"))

-- the number of an option, at most `most`; where it is not among the words another
abbrev pub option_number : Text → ℕ → ℕ → List Row → Option ℕ
option_number name most otherwise rows = option_map_or (λ text. number_within most text) (first_of name rows) (Some otherwise)

-- how many servers there are, how many copies each slice has, and how many bytes a region has
pub record Numbers : Type 0 where
  pub servers : ℕ
  pub replicas : ℕ
  pub region : ℕ

abbrev pub numbers : Settings → Numbers
numbers s = record { servers = s.servers; replicas = s.replicas; region = s.region }

-- these numbers are inside their limits
abbrev pub are_settings : ℕ → ℕ → ℕ → Bool
are_settings servers replicas region = (nat_le 1 servers && nat_le servers 16)
    && ((nat_le 1 replicas && (nat_le replicas 3 && nat_le replicas servers)) && (nat_le 64 region && nat_le region 1048576))

abbrev pub within_limits : ℕ → ℕ → ℕ → Option Numbers
within_limits servers replicas region =
    if are_settings servers replicas region then Some (record { servers = servers; replicas = replicas; region = region }) else None

-- the numbers of the options
abbrev pub chosen_numbers : List Row → Option Numbers
chosen_numbers rows = option_and_then (λ servers. option_and_then (λ replicas. option_and_then (λ region. within_limits servers replicas region)
    (option_number (codes "region") 1048576 65536 rows)) (option_number (codes "replicas") 3 2 rows)) (option_number (codes "servers") 16 4 rows)

-- a script that is made from a number has a line
abbrev pub HasLine : Script → Type 0
HasLine script.Read = ⊤
HasLine (script.Generated recipe) = 1 ≤ recipe.lines

-- a script of so many lines, at least one and at most 1,000,000, that is made from a number of 64 bits
abbrev pub generated_within : ℕ → ℕ → Option Script
generated_within number lines = if nat_le 1 lines then Some (script.Generated (record { number = number; lines = lines })) else None

abbrev pub generated_by : Text → Text → Option Script
generated_by number lines = option_and_then (λ n. option_and_then (λ k. generated_within n k) (number_within 1000000 lines)) (number_within (2 ^ 64 - 1) number)

-- where the script comes from, by the values of `--gen` and `--lines`: neither stands without the other
abbrev pub script_by : Option Text → Option Text → Option Script
script_by None None = Some script.Read
script_by (Some number) (Some lines) = generated_by number lines
script_by number lines = None

abbrev pub script_of : List Row → Option Script
script_of rows = script_by (first_of (codes "gen") rows) (first_of (codes "lines") rows)

-- what the words ask for: the numbers of the run, and where its script comes from
pub record Request : Type 0 where
  pub numbers : Numbers
  pub script : Script

abbrev pub request : Asked → Request
request asked = record { numbers = numbers asked.settings; script = asked.script }

-- what the options ask for
abbrev pub chosen : List Row → Option Request
chosen rows = option_and_then (λ n. option_map (λ s. record { numbers = n; script = s }) (script_of rows)) (chosen_numbers rows)

abbrev pub asked_by : Kinds → List Row → Option Request
asked_by [] rows = chosen rows
asked_by (kind ∷ kinds) rows = None

-- what the words ask for, where they are taken: what `clap` finds among them
abbrev pub asked_of : List Text → Option Request
asked_of words = asked_by (fault_of wtf_app words) (matches_of wtf_app words)
