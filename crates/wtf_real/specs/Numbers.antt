-- The numbers that the system gives to open files, where a file says its own.
use Rattle.std.specs.Prelude.{◌≡◌, ℤ, pos, Option, ◌<ℤ◌, IfSome}

-- a file is none of the standard streams, which are 0, 1 and 2
abbrev pub IsNoStream : {F : Type 0} → (F → Option ℤ) → F → Type 0
IsNoStream raw_fd file = IfSome (raw_fd file) (λ (n : ℤ). pos 2 <ℤ n)

-- a file has this number
abbrev pub HasNumber : {F : Type 0} → (F → Option ℤ) → ℤ → F → Type 0
HasNumber raw_fd number file = IfSome (raw_fd file) (λ (n : ℤ). n ≡ number)

-- what stands in for the standard streams that were closed, and a file that was opened behind them
pub record Standing (F : Type 0) : Type 0 where
  pub input : Option F
  pub output : Option F
  pub errors : Option F
  pub behind : F

-- each stand-in has the number of its stream, and the file behind them none of these: no lower number was free
abbrev pub AreTaken : {F : Type 0} → (F → Option ℤ) → Standing F → Type 0
AreTaken raw_fd s =
    IfSome s.input (HasNumber raw_fd (pos 0))
    × IfSome s.output (HasNumber raw_fd (pos 1))
    × IfSome s.errors (HasNumber raw_fd (pos 2))
    × IsNoStream raw_fd s.behind
