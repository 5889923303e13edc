-- A script is its first line, and the script of the state behind it.
use Rattle.std.proofs.Common.{◌≡◌, ℕ, suc, ◌-◌, ◌<◌, List, [], ◌∷◌, ◌++◌, refl, arith, ◌∙◌, sym, ap}
use Rattle.std.specs.List.{flat_map}
use Rattle.wtf_gen.specs.Lines.{state_line, state_after, generated_lines, generated_script}
use Rattle.wtf_gen.specs.Scripts.{ScriptState, script_rest}

pub no_script : (x : ℕ) → generated_script x 0 ≡ []
unfolding generated_lines generated_script
no_script x = refl

pub script_behind : (x n : ℕ) → generated_script x (suc n) ≡ (state_line x ++ 10 ∷ []) ++ generated_script (state_after x) n
unfolding generated_lines generated_script
script_behind x n = refl

pub script_before : (x n : ℕ) → 0 < n → generated_script x n ≡ (state_line x ++ 10 ∷ []) ++ generated_script (state_after x) (n - 1)
script_before x n h =
    let e : n ≡ suc (n - 1) = omega (arith, h) in
    ap (λ (k : ℕ). generated_script x k) e ∙ script_behind x (n - 1)

pub rest_at_end : (s : ScriptState) → s.begun ≡ [] → s.lines.left ≡ 0 → script_rest s ≡ []
rest_at_end s e h =
    ap (λ (b : List ℕ). b ++ generated_script s.lines.state s.lines.left) e
    ∙ ap (λ (n : ℕ). generated_script s.lines.state n) h ∙ no_script s.lines.state

-- the next line is made where none is begun, and the rest stays the same
pub rest_made : (s : ScriptState) (begun : List ℕ) (x n : ℕ) → s.begun ≡ [] → 0 < s.lines.left →
    begun ≡ state_line s.lines.state ++ 10 ∷ [] → x ≡ state_after s.lines.state → n ≡ s.lines.left - 1 →
    begun ++ generated_script x n ≡ script_rest s
rest_made s begun x n e h b y k =
    ap (λ (b : List ℕ). b ++ generated_script x n) b
    ∙ ap (λ (y : ℕ). (state_line s.lines.state ++ 10 ∷ []) ++ generated_script y n) y
    ∙ ap (λ (k : ℕ). (state_line s.lines.state ++ 10 ∷ []) ++ generated_script (state_after s.lines.state) k) k
    ∙ sym (script_before s.lines.state s.lines.left h)
    ∙ sym (ap (λ (b : List ℕ). b ++ generated_script s.lines.state s.lines.left) e)
