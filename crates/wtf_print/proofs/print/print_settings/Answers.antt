use Rattle.std.proofs.Common.{◌≡◌, ◌++◌, List, ℕ, codes, decimal, append_assoc}
use Rattle.wtf_print.specs.Texts.{settings_text}
use Rattle.wtf_print.proofs.print.print_settings.Goals as goal

-- four texts with a number each, appended one by one
appended : (o t m u n v k w l o1 o2 o3 o4 : List ℕ) → o1 ≡ o ++ (t ++ m) → o2 ≡ o1 ++ (u ++ n) → o3 ≡ o2 ++ (v ++ k) → o4 ≡ o3 ++ (w ++ l) → o4 ≡ o ++ (t ++ m ++ u ++ n ++ v ++ k ++ w ++ l)
appended o t m u n v k w l o1 o2 o3 o4 a b c d = simp (d, c, b, a, append_assoc)

pub returns : goal.returns
unfolding settings_text
returns c =
    let s = c.args.settings in
    appended _ (codes "wtf servers ") (decimal s.servers) (codes " replicas ") (decimal s.replicas) (codes " region ") (decimal s.region) (codes " number ") (decimal c.args.number) _ _ _ _ (rw c.from.ensures at c.in_ok-push_with_number.ensures) (rw c.from-2.ensures at c.in_ok-push_with_number-2.ensures) (rw c.from-3.ensures at c.in_ok-push_with_number-3.ensures) c.in_ok-push_with_number-4.ensures
