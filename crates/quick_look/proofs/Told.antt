-- What the code answers is told as the definition says it: refused by a check, refused by the rows' shape, and nothing is lost.
use mathlib.Core.Path.{◌≡◌, sym, ◌∙◌, ap}
use Prim.Native.Nat.{ℕ}
use Rattle.std.specs.Prelude.{Result, Ok, Err}
use Rattle.model.specs.Sheet.{Sheet}
use Rattle.refusals.specs.declared.Refusal.{Refusal as Why}
use Rattle.refusals.specs.Refusals.{Refusal, refused}
use Rattle.refusals.specs.Told.{told}
use Rattle.rows.specs.Layouts.{Lent, shape_refusal}
use Rattle.rows.proofs.InOrder.{held, numbered, refused_so, told_fixed}
use Rattle.quick_look.specs.declared.Reply.{Reply}
use Rattle.quick_look.specs.declared.Reply.TheVariants.{Unsure}
use Rattle.quick_look.specs.DensityTest.{DensityAnswer, density_of, density_in}
use Rattle.quick_look.specs.Told.{reply_said}
use Rattle.quick_look.proofs.Promised.{made, density_shape_refused}

-- A check that refuses is the answer, whatever the sheet.
pub reply_refused : (why : Why) (refusal : Refusal) → told why ≡ refusal → (s : Sheet) (m : ℕ) → reply_said (Err why) ≡ density_of refusal s m
unfolding density_of
reply_refused why refusal same s m = refused_so (λ (r : Refusal). made r.number r.place Unsure) why refusal _ same

-- So are 2 and 3.
pub reply_by_shape : (lent : Lent) (m : ℕ) (why : Why) → told why ≡ refused (shape_refusal lent) 0 → reply_said (Err why) ≡ density_in lent m
reply_by_shape lent m why same =
    ap (λ (r : Refusal). made r.number r.place Unsure) same ∙ sym (density_shape_refused lent m (held why _ same))

-- Results that are told alike are one.
pub reply_said_fixed : (r q : Result Reply Why) → reply_said r ≡ reply_said q → r ≡ q
reply_said_fixed (Ok reply) (Ok other) same = ap Ok (ap (λ (a : DensityAnswer). a.answer) same)
reply_said_fixed (Ok reply) (Err other) same = absurd (numbered other (sym (ap (λ (a : DensityAnswer). a.refusal) same)))
reply_said_fixed (Err why) (Ok other) same = absurd (numbered why (ap (λ (a : DensityAnswer). a.refusal) same))
reply_said_fixed (Err why) (Err other) same = ap Err (told_fixed why other (ap (λ (a : DensityAnswer). refused a.refusal a.place) same))
