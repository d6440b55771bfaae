-- The methods by their numbers in document 01.
use Rattle.std.specs.Prelude.{◌≡◌, ℕ, Result, IfOk}
use Rattle.rows.specs.declared.method.Method.{Method}
use Rattle.rows.specs.declared.method.Method.TheVariants.{Bcl, Rta}
use Rattle.refusals.specs.declared.Refusal.{Refusal as Why}
use Rattle.refusals.specs.Refusals.{refused}
use Rattle.rows.specs.Checks.{method_refusal}
use Rattle.refusals.specs.Told.{said}

-- 0 is BCL, 1 is RTA.
abbrev pub method_number : Method → ℕ
method_number Bcl = 0
method_number Rta = 1

-- A number taken for a method: refused where the table refuses it, else the method of that number.
abbrev pub Named : ℕ → Result Method Why → Type 0
Named number method = (said method ≡ refused (method_refusal number) 0) × IfOk method (λ m. method_number m ≡ number)
