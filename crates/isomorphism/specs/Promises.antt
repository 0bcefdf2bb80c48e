-- What two calls promise together.
--
--   CheckedAnswer xs ys r   the mapping that is told of two graphs was checked, and the result is r: that it is accepted. There is none exactly
--                           if they are not told to be isomorphic
use Rattle.std.specs.Prelude.{◌≡◌, ◌≢◌, Some, None, Option, Result}
use Rattle.std.specs.Result.{IsOk}
use Rattle.theory.specs.Row.{Row}
use Rattle.theory.specs.Encoding.{check_verdict}
use Rattle.theory.specs.Comparison.{isomorphic_by, compare_verdict}
use Rattle.isomorphism.specs.declared.refusal.CheckRefusal.{CheckRefusal}
use Rattle.isomorphism.specs.Refusals.{checked}

abbrev pub CheckedAnswer : {X : Type 0} → Row → Row → Option (Result X CheckRefusal) → Type 0
CheckedAnswer xs ys None = (p : Row) → compare_verdict xs ys ≢ isomorphic_by p
CheckedAnswer xs ys (Some r) = (p : Row) × (compare_verdict xs ys ≡ isomorphic_by p) × (checked r ≡ check_verdict xs ys p) × IsOk r
