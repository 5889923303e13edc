use Rattle.std.proofs.Common.{◌++◌, List, Option, ap, ◌∙◌}
use Rattle.wtf_overlay.specs.declared.part.Entry.{Entry}
use Rattle.wtf_overlay.specs.Clips.{clip_list}
use Rattle.wtf_values.specs.declared.region.Spill.{Spill}
use Rattle.wtf_meta.specs.Lists.{or_none, seen_list}
use Rattle.wtf_meta.proofs.Telling.{lists_in-is}
use Rattle.wtf_meta.proofs.examples.regions_have_lists.Goals as goal

pub returns-clause-none : goal.returns-clause-none
returns-clause-none c lists v none = ap (λ (b : Option Spill). seen_list lists b ++ v.list) none

pub returns-clause-base : goal.returns-clause-base
returns-clause-base c lists v s es base tell =
    ap (λ (b : Option Spill). seen_list lists b ++ v.list) base ∙ ap (λ (o : Option (List Entry)). clip_list s.visible (or_none o) ++ v.list) tell

pub returns-clause-told : goal.returns-clause-told
returns-clause-told c = lists_in-is
