use Rattle.std.proofs.Common.{◌≡◌, ◌++◌, ◌∷◌, [], ℕ, List, ap, ◌∙◌, subst}
use Rattle.std.proofs.KnownBytes.{Appends-trans}
use Rattle.std.specs.Io.KnownBytes.{Appends}
use Rattle.wtf_cli.specs.Program.{printed_line, error_text}
use Rattle.wtf_cli.proofs.write_line.Goals as goal

pub returns : goal.returns
returns g c =
    let text : c.in-Some.line.now ++ 10 ∷ [] ≡ error_text c.args.status = ap printed_line c.in-Some.ensures in
    subst (λ (bytes : List ℕ). Appends (g.W.Write.contents c.args.to.now) (g.W.Write.contents c.write_all-2.new.self) bytes)
    (ap (λ (l : List ℕ). l ++ 10 ∷ []) c.as_bytes.ensures.value ∙ text)
    (Appends-trans _ _ _ _ _ c.in_ok-write_all.ensures.bytes c.in_ok-write_all-2.ensures.bytes)
