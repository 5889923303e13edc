-- What is told of a value without its parts.
use Rattle.std.specs.Prelude.{Option, None, Some}
use Rattle.wtf_values.specs.declared.summary.Summary.{Summary}
use Rattle.wtf_values.specs.declared.summary.Summary.TheVariants as summary
use Rattle.wtf_values.specs.declared.value.Value.{Value}
use Rattle.wtf_values.specs.declared.value.Value.TheVariants.{Node, Names, Last, Region, Count}

-- the number of a last region, where a region ends, or a number of paths
abbrev pub summary_of : Option Value → Summary
summary_of None = summary.Missing
summary_of (Some (Last n)) = summary.Last n
summary_of (Some (Region v)) = summary.Region v.end
summary_of (Some (Count n)) = summary.Count n
summary_of (Some (Names s)) = summary.Other
summary_of (Some (Node n)) = summary.Other
