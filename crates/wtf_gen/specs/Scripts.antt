-- What contracts see of a script that is given as bytes.
use Rattle.std.specs.Prelude.{ℕ, List, ◌++◌, Some}
use Rattle.wtf_dev.specs.Streams.{SourceView}
use Rattle.wtf_gen.specs.Lines.{Drawing, generated_script}

-- the bytes of a line that was begun, the lines behind it, and how many bytes were given in all
pub record ScriptState : Type 0 where
  pub begun : List ℕ
  pub lines : Drawing
  pub given : ℕ

-- the bytes that are still to come
abbrev pub script_rest : ScriptState → List ℕ
script_rest s = s.begun ++ generated_script s.lines.state s.lines.left

abbrev pub script_view : ScriptState → SourceView
script_view s = record { faults = 0; given = s.given; rest = Some (script_rest s) }
