use Rattle.std.proofs.Common.{◌≡◌, ℕ, ◌+◌, ◌-◌, ◌≤◌, false, List, length, Some}
use Rattle.std.specs.List.{Contains}
use Rattle.wtf_script.specs.declared.limits.TheConstants.{SCRIPT_BYTES, LINE_BYTES}
use Rattle.wtf_script.specs.ScriptLines.{line_feed}
use Rattle.wtf_script.specs.Reading.{work, Draws}
use Rattle.wtf_script.proofs.Chunks.{Sofar}
use Rattle.wtf_script.proofs.lines.Lines.next.Given as goal

abbrev pub invariant-loop-line : goal.invariant-loop-line
invariant-loop-line g l =
    record {
      told : (rest : List ℕ) → (g.I.Source.view l.fn.source).rest ≡ Some rest → Sofar l.fn.self l.self l.line.items rest (g.I.Source.view l.source).rest;
      len : length l.line.items ≤ LINE_BYTES + 1;
      given : Draws l.fn.self l.self (g.I.Source.view l.fn.source) (g.I.Source.view l.source);
      grows : l.fn.self.count ≤ l.self.count;
      limit : l.self.count ≤ SCRIPT_BYTES;
      going : l.self.ended ≡ false;
      opened : l.fn.self.ended ≡ false;
      work : work l.self ≤ work l.fn.self;
      faults : (g.I.Source.view l.fn.source).faults ≤ (g.I.Source.view l.source).faults;
      held : Contains l.fn.self.bytes line_feed → (l.self ≡ l.fn.self) × (l.source ≡ l.fn.source);
    }

abbrev pub decreases-loop-line : goal.decreases-loop-line
decreases-loop-line g l = SCRIPT_BYTES - l.self.count
