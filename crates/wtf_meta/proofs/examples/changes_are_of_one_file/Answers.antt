use Rattle.wtf_meta.proofs.Edits.{file_after}
use Rattle.wtf_meta.proofs.Frame.{paths_stay, dirs_stay, file_stays}
use Rattle.wtf_meta.proofs.examples.changes_are_of_one_file.Goals as goal

pub returns-clause-here : goal.returns-clause-here
returns-clause-here c = file_after

pub returns-clause-paths : goal.returns-clause-paths
returns-clause-paths c = paths_stay

pub returns-clause-directories : goal.returns-clause-directories
returns-clause-directories c = dirs_stay

pub returns-clause-others : goal.returns-clause-others
returns-clause-others c = file_stays
