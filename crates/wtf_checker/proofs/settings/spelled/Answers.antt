use Rattle.std.proofs.Common.{codes}
use Rattle.wtf_lex.specs.Words.{words_behind}
use Rattle.wtf_checker.proofs.SettingsLaws.{tail_is, none_is, behind_first, bounds, spells_of}
use Rattle.wtf_checker.proofs.settings.spelled.Goals as goal

pub returns-in_default : goal.returns-in_default
returns-in_default c = λ s e. absurd (none_is (codes "servers") _ (words_behind c.split_word.result.1.now) c.in_default.ensures.words
    (behind_first s c.args.text.now c.split_word.result.0.now _ e c.split_word.ensures.words))

pub returns-in_default-number_and_word : goal.returns-in_default-number_and_word
returns-in_default-number_and_word c = λ s e.
    let here = tail_is _ (codes "servers") _ _ _ c.in-Some.ensures.words
    (behind_first s c.args.text.now c.split_word.result.0.now _ e c.split_word.ensures.words) in
    c.in_default-number_and_word.ensures.spelled s.servers (codes "replicas") _ (bounds s).0 here

pub returns-in_default-number_and_word-2 : goal.returns-in_default-number_and_word-2
returns-in_default-number_and_word-2 c = λ s e.
    let here = tail_is _ (codes "servers") _ _ _ c.in-Some.ensures.words
    (behind_first s c.args.text.now c.split_word.result.0.now _ e c.split_word.ensures.words) in
    let one = c.in-Some-number_and_word.ensures.spelled s.servers (codes "replicas") _ (bounds s).0 here in
    c.in_default-number_and_word-2.ensures.spelled s.replicas (codes "region") _ (bounds s).1 one.1

pub returns-in_default-number_and_word-3 : goal.returns-in_default-number_and_word-3
returns-in_default-number_and_word-3 c = λ s e.
    let here = tail_is _ (codes "servers") _ _ _ c.in-Some.ensures.words
    (behind_first s c.args.text.now c.split_word.result.0.now _ e c.split_word.ensures.words) in
    let one = c.in-Some-number_and_word.ensures.spelled s.servers (codes "replicas") _ (bounds s).0 here in
    let two = c.in-Some-number_and_word-2.ensures.spelled s.replicas (codes "region") _ (bounds s).1 one.1 in
    c.in_default-number_and_word-3.ensures.spelled s.region (codes "number") _ (bounds s).2 two.1

pub returns : goal.returns
returns c = λ s e.
    let here = tail_is _ (codes "servers") _ _ _ c.in-Some.ensures.words
    (behind_first s c.args.text.now c.split_word.result.0.now _ e c.split_word.ensures.words) in
    let one = c.in-Some-number_and_word.ensures.spelled s.servers (codes "replicas") _ (bounds s).0 here in
    let two = c.in-Some-number_and_word-2.ensures.spelled s.replicas (codes "region") _ (bounds s).1 one.1 in
    let three = c.in-Some-number_and_word-3.ensures.spelled s.region (codes "number") _ (bounds s).2 two.1 in
    spells_of s c.new-settings.result _ _ _ c.new-settings.ensures.found c.new-settings.ensures.servers c.new-settings.ensures.replicas
    c.new-settings.ensures.region one.0 two.0 three.0
