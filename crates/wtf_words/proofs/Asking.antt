-- What the words ask for, by what `clap` finds among them.
use Rattle.std.proofs.Common.{◌≡◌, ◌≢◌, ℕ, List, [], ◌∷◌, Option, Some, None, refl, ◌∙◌, ap}
use Rattle.std.specs.Option.{option_map_or}
use Rattle.clap.specs.Words.{Row, Text, first_value, rows_of}
use Rattle.clap.specs.Kinds.{Kinds}
use Rattle.clap.specs.declared.parser.matches.Found.{Found}
use Rattle.clap.proofs.WalkLemmas.{first_value-rows}
use Rattle.wtf_lex.specs.Numbers.{number_within}
use Rattle.wtf_words.specs.Words.{asked_by, option_number}

-- the number of an option, by its value
pub number_by : (f : Found) (name : Text) (most otherwise : ℕ) (value : Option Text) → value ≡ first_value f name
    → option_map_or (λ (text : Text). number_within most text) value (Some otherwise) ≡ option_number name most otherwise (rows_of f)
number_by f name most otherwise value is =
    ap (λ (o : Option Text). option_map_or (λ (text : Text). number_within most text) o (Some otherwise)) (is ∙ first_value-rows f name)

-- words that are not taken ask for nothing
pub none_asked : (kinds : Kinds) (rows : List Row) → kinds ≢ [] → asked_by kinds rows ≡ None
none_asked [] rows some = absurd (some refl)
none_asked (kind ∷ kinds) rows some = refl
