-- Settings of one line are the same.
use Rattle.std.proofs.Common.{◌≡◌, ℕ, ◌≤◌, List, [], get_or, decimal, Option, Some, sym, ◌∙◌, ap, subst, arith}
use Rattle.std.proofs.Math.Bridge.{le_prop}
use Rattle.wtf_base.specs.declared.settings.Settings.{Settings}
use Rattle.wtf_base.specs.Limits.{AreSettings}
use Rattle.wtf_lex.specs.Words.{words_of}
use Rattle.wtf_lex.specs.Numbers.{number_within}
use Rattle.wtf_print.proofs.Spelled.{number-spelled}
use Rattle.wtf_checker.specs.Lawful.{first_text}
use Rattle.wtf_checker.proofs.SettingsLaws.{settings_words, bounds}

number_one : (a b : ℕ) → a ≤ 4294967295 → b ≤ 4294967295 → decimal a ≡ decimal b → a ≡ b
number_one a b h k e =
    let same : ◌≡◌ {A = Option ℕ} (Some a) (Some b) =
    sym (number-spelled 4294967295 a (omega (arith, h)) h) ∙ ap (λ (w : List ℕ). number_within 4294967295 w) e
    ∙ number-spelled 4294967295 b (omega (arith, k)) k in
    cc

limits_one : (a b c : ℕ) (l k : AreSettings a b c) → l ≡ k
limits_one a b c l k =
    ap (λ (x : 1 ≤ a). (x, l.1, l.2, l.3, l.4, l.5, l.6)) (le_prop l.0 k.0)
    ∙ ap (λ (x : a ≤ 16). (k.0, x, l.2, l.3, l.4, l.5, l.6)) (le_prop l.1 k.1)
    ∙ ap (λ (x : 1 ≤ b). (k.0, k.1, x, l.3, l.4, l.5, l.6)) (le_prop l.2 k.2)
    ∙ ap (λ (x : b ≤ 3). (k.0, k.1, k.2, x, l.4, l.5, l.6)) (le_prop l.3 k.3)
    ∙ ap (λ (x : b ≤ a). (k.0, k.1, k.2, k.3, x, l.5, l.6)) (le_prop l.4 k.4)
    ∙ ap (λ (x : 64 ≤ c). (k.0, k.1, k.2, k.3, k.4, x, l.6)) (le_prop l.5 k.5)
    ∙ ap (λ (x : c ≤ 1048576). (k.0, k.1, k.2, k.3, k.4, k.5, x)) (le_prop l.6 k.6)

abbrev settings_at : (a b c : ℕ) → AreSettings a b c → Settings
settings_at a b c l = record { servers = a; replicas = b; region = c; limits = l }

numbers_one : (a b c : ℕ) (l : AreSettings a b c) (x : ℕ) → a ≡ x → (y : ℕ) → b ≡ y → (z : ℕ) → c ≡ z → (k : AreSettings x y z)
    → settings_at a b c l ≡ settings_at x y z k
numbers_one a b c l x e y f z g =
    subst (λ (x : ℕ). (k : AreSettings x y z) → settings_at a b c l ≡ settings_at x y z k) e
    (subst (λ (y : ℕ). (k : AreSettings a y z) → settings_at a b c l ≡ settings_at a y z k) f
    (subst (λ (z : ℕ). (k : AreSettings a b z) → settings_at a b c l ≡ settings_at a b z k) g
    (λ k. ap (λ (m : AreSettings a b c). settings_at a b c m) (limits_one a b c l k))))

pub settings_one : (s t : Settings) → first_text s ≡ first_text t → s ≡ t
settings_one s t e =
    let words = sym (settings_words s) ∙ ap words_of e ∙ settings_words t in
    let l = bounds s in
    let k = bounds t in numbers_one s.servers s.replicas s.region s.limits
    t.servers (number_one s.servers t.servers (omega (arith, l.0)) (omega (arith, k.0)) (ap (λ (ws : List (List ℕ)). get_or ws 2 []) words))
    t.replicas (number_one s.replicas t.replicas (omega (arith, l.1)) (omega (arith, k.1)) (ap (λ (ws : List (List ℕ)). get_or ws 4 []) words))
    t.region (number_one s.region t.region l.2 k.2 (ap (λ (ws : List (List ℕ)). get_or ws 6 []) words)) t.limits
