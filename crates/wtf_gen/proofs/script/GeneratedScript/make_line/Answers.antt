use Rattle.std.proofs.Common.{rules, ◌∙◌, sym, ap}
use Rattle.std.proofs.lemmas.List.{drop_all}
use Rattle.wtf_gen.specs.Scripts.{ScriptState}
use Rattle.wtf_gen.proofs.Scripts.{rest_at_end, rest_made}
use Rattle.wtf_gen.proofs.script.GeneratedScript.make_line.Goals as goal

pub returns-then-self-eq0-clause-some : goal.returns-then-self-eq0-clause-some
returns-then-self-eq0-clause-some c = λ e. rest_at_end c.args.self.now e
    (ap (λ (s : ScriptState). s.lines.left) (sym c.self.view_is) ∙ search rules)

pub returns-clause-rest : goal.returns-clause-rest
returns-clause-rest c =
    let x = ap (λ (s : ScriptState). s.lines.state) c.self.view_is in
    let n = ap (λ (s : ScriptState). s.lines.left) c.self.view_is in
    rest_made c.args.self.now _ _ _
    (ap (λ (s : ScriptState). s.begun) (sym c.self.view_is) ∙ drop_all c.self.inside.at c.self.inside.line.items (search rules))
    (search (rules, n)) (search (rules, x)) (search (rules, x)) (search (rules, n))
