-- The words of a line of settings.
use Rattle.std.proofs.Common.{◌≡◌, ℕ, ◌<◌, ◌≤◌, ◌^◌, List, [], ◌∷◌, ◌++◌, codes, decimal, Option, Some, None, sym, ◌∙◌, ap, subst, arith, append_assoc}
use Rattle.std.specs.Prelude.{◌↔◌, IsSome, IfSome}
use Rattle.wtf_base.specs.declared.settings.Settings.{Settings}
use Rattle.wtf_base.specs.Limits.{AreSettings}
use Rattle.wtf_lex.specs.Words.{words_of}
use Rattle.wtf_print.specs.Texts.{settings_text}
use Rattle.wtf_print.proofs.Spelled.{first-word, one-word, number-no_space, number-spelled}
use Rattle.wtf_lex.specs.Numbers.{number_within}
use Rattle.wtf_checker.specs.Lawful.{first_text}
use Rattle.wtf_checker.specs.Spelled.{Spells}

right : (a b c d e f g h : List ℕ) → a ++ b ++ c ++ d ++ e ++ f ++ g ++ h ≡ a ++ (b ++ (c ++ (d ++ (e ++ (f ++ (g ++ h))))))
right a b c d e f g h =
    append_assoc (a ++ b ++ c ++ d ++ e ++ f) g h
    ∙ append_assoc (a ++ b ++ c ++ d ++ e) f (g ++ h)
    ∙ append_assoc (a ++ b ++ c ++ d) e (f ++ (g ++ h))
    ∙ append_assoc (a ++ b ++ c) d (e ++ (f ++ (g ++ h)))
    ∙ append_assoc (a ++ b) c (d ++ (e ++ (f ++ (g ++ h))))
    ∙ append_assoc a b (c ++ (d ++ (e ++ (f ++ (g ++ h)))))

-- a number, and the word behind it
numbered : (n : ℕ) (key behind : List ℕ) (ws : List (List ℕ)) → n < 2 ^ 64 → words_of behind ≡ key ∷ ws
    → words_of (decimal n ++ 32 ∷ behind) ≡ decimal n ∷ key ∷ ws
numbered n key behind ws h e = first-word (decimal n) behind (number-no_space n h) ∙ ap (λ (x : List (List ℕ)). decimal n ∷ x) e

words_from : (n r g z : ℕ) → n < 2 ^ 64 → r < 2 ^ 64 → g < 2 ^ 64 → z < 2 ^ 64
    → words_of (codes "wtf servers "
    ++ (decimal n ++ (codes " replicas " ++ (decimal r ++ (codes " region " ++ (decimal g ++ (codes " number " ++ decimal z)))))))
    ≡ codes "wtf" ∷ codes "servers" ∷ decimal n ∷ codes "replicas" ∷ decimal r ∷ codes "region" ∷ decimal g ∷ codes "number" ∷ decimal z ∷ []
words_from n r g z hn hr hg hz =
    let last : words_of (codes "number " ++ decimal z) ≡ codes "number" ∷ decimal z ∷ [] =
    ap (λ (x : List (List ℕ)). codes "number" ∷ x) (one-word (decimal z) (number-no_space z hz)) in
    let region : words_of (codes "region " ++ (decimal g ++ (codes " number " ++ decimal z))) ≡ codes "region" ∷ decimal g ∷ codes "number" ∷ decimal z ∷ [] =
    ap (λ (x : List (List ℕ)). codes "region" ∷ x) (numbered g (codes "number") (codes "number " ++ decimal z) (decimal z ∷ []) hg last) in
    let replicas : words_of (codes "replicas " ++ (decimal r ++ (codes " region " ++ (decimal g ++ (codes " number " ++ decimal z)))))
    ≡ codes "replicas" ∷ decimal r ∷ codes "region" ∷ decimal g ∷ codes "number" ∷ decimal z ∷ [] =
    ap (λ (x : List (List ℕ)). codes "replicas" ∷ x)
    (numbered r (codes "region") (codes "region " ++ (decimal g ++ (codes " number " ++ decimal z)))
    (decimal g ∷ codes "number" ∷ decimal z ∷ []) hr region) in
    ap (λ (x : List (List ℕ)). codes "wtf" ∷ codes "servers" ∷ x)
    (numbered n (codes "replicas") (codes "replicas " ++ (decimal r ++ (codes " region " ++ (decimal g ++ (codes " number " ++ decimal z)))))
    (decimal r ∷ codes "region" ∷ decimal g ∷ codes "number" ∷ decimal z ∷ []) hn replicas)

-- the words of a line of settings
pub settings_words : (s : Settings) → words_of (first_text s)
    ≡ codes "wtf" ∷ codes "servers" ∷ decimal s.servers ∷ codes "replicas" ∷ decimal s.replicas ∷ codes "region" ∷ decimal s.region ∷ codes "number" ∷ decimal 0
    ∷ []
unfolding settings_text
settings_words s =
    let l : AreSettings s.servers s.replicas s.region = s.limits in
    ap words_of (right (codes "wtf servers ") (decimal s.servers) (codes " replicas ") (decimal s.replicas) (codes " region ") (decimal s.region)
    (codes " number ") (decimal 0))
    ∙ words_from s.servers s.replicas s.region 0 (omega (arith, l)) (omega (arith, l)) (omega (arith, l)) (omega arith)

-- settings of one line are the same
abbrev first_of : List (List ℕ) → List ℕ
first_of [] = []
first_of (x ∷ xs) = x

abbrev rest_of : List (List ℕ) → List (List ℕ)
rest_of [] = []
rest_of (x ∷ xs) = xs

-- ---- reading them

pub tail_is : (x y : List ℕ) (xs ys zs : List (List ℕ)) → zs ≡ x ∷ xs → zs ≡ y ∷ ys → xs ≡ ys
tail_is x y xs ys zs e f = ap (λ ws. rest_of ws) (sym e ∙ f)

pub head_is : (x y : List ℕ) (xs ys zs : List (List ℕ)) → zs ≡ x ∷ xs → zs ≡ y ∷ ys → x ≡ y
head_is x y xs ys zs e f = ap (λ ws. first_of ws) (sym e ∙ f)

pub none_is : (y : List ℕ) (ys zs : List (List ℕ)) → zs ≡ [] → zs ≡ y ∷ ys → ⊥
none_is y ys zs e f = cc

pub number_here : (most n : ℕ) (word : List ℕ) → most < 2 ^ 64 → n ≤ most → word ≡ decimal n → number_within most word ≡ Some n
number_here most n word h k e = ap (λ (w : List ℕ). number_within most w) e ∙ number-spelled most n (omega (arith, h, k)) k

-- the words behind the first one
pub behind_first : (s : Settings) (text word : List ℕ) (ws : List (List ℕ)) → first_text s ≡ text → words_of text ≡ word ∷ ws
    → ws ≡ codes "servers" ∷ decimal s.servers ∷ codes "replicas" ∷ decimal s.replicas ∷ codes "region" ∷ decimal s.region ∷ codes "number" ∷ decimal 0 ∷ []
behind_first s text word ws e f = tail_is word (codes "wtf") ws _ (words_of text) f (ap words_of (sym e) ∙ settings_words s)

pub bounds : (s : Settings) → (s.servers ≤ 255) × (s.replicas ≤ 255) × (s.region ≤ 4294967295)
bounds s = let l : AreSettings s.servers s.replicas s.region = s.limits in (omega (arith, l), omega (arith, l), omega (arith, l))

pub spells_of : (s : Settings) (o : Option Settings) (a b c : ℕ) → IsSome o ↔ AreSettings a b c → IfSome o (λ t. t.servers ≡ a) → IfSome o (λ t. t.replicas ≡ b)
    → IfSome o (λ t. t.region ≡ c)
    → a ≡ s.servers → b ≡ s.replicas → c ≡ s.region → Spells s o
spells_of s None a b c found x y z e f g =
    let l : AreSettings s.servers s.replicas s.region = s.limits in
    let some = found.1 (subst (λ k. AreSettings a b k) (sym g) (subst (λ k. AreSettings a k s.region) (sym f)
    (subst (λ k. AreSettings k s.replicas s.region) (sym e) l))) in
    absurd cc
spells_of s (Some t) a b c found x y z e f g = (x ∙ e, y ∙ f, z ∙ g)
