-- What the result of a check means: it is accepted exactly if the mapping is an isomorphism.
use Rattle.std.proofs.Common.{◌≡◌, ℕ, ◌≤◌, length, Ok, Err, Result, refl, ◌∙◌, arith}
use Rattle.std.specs.Prelude.{◌↔◌}
use Rattle.std.specs.Result.{IsOk}
use Rattle.theory.specs.Row.{Row}
use Rattle.theory.specs.Isomorphism.{Isomorphism, place}
use Rattle.theory.specs.Refusal.{Verdict, accepted, refused, told_of}
use Rattle.theory.specs.Encoding.{blank_count, graph_in, encoding_verdict, mapping_verdict, check_verdict, mapping_accepted, mapping_refused}
use Rattle.theory.proofs.Encoding.{accepted_well_formed}
use Rattle.theory.proofs.Mapping.{mapping_exact}
use Rattle.isomorphism.specs.declared.refusal.PairRefusal.TheVariants.{First, Second}
use Rattle.isomorphism.specs.declared.refusal.CheckRefusal.{CheckRefusal}
use Rattle.isomorphism.specs.declared.refusal.CheckRefusal.TheVariants.{Graph, Mapping}
use Rattle.isomorphism.specs.Refusals.{check_told, checked}

-- no refusal tells that a mapping is accepted
not_accepted : (r : CheckRefusal) → check_told r ≡ mapping_accepted → ⊥
not_accepted (Graph (First r)) e = let z : ◌≡◌ {A = ℕ} 0 1 = cc in omega arith
not_accepted (Graph (Second r)) e = let z : ◌≡◌ {A = ℕ} 0 1 = cc in omega arith
not_accepted (Mapping m) e = let z : ◌≡◌ {A = ℕ} 0 1 = cc in omega arith

told_accepted : (v : Verdict) → mapping_accepted ≡ told_of mapping_refused v mapping_accepted → v ≡ accepted
told_accepted accepted e = refl
told_accepted (refused number at) e = let z : ◌≡◌ {A = ℕ} 0 1 = cc in absurd (omega arith)

module _ (xs ys p : Row) (ex : encoding_verdict xs ≡ accepted) (ey : encoding_verdict ys ≡ accepted) where
  mapping_told : check_verdict xs ys p ≡ told_of mapping_refused (mapping_verdict (graph_in xs) (graph_in ys) p) mapping_accepted
  mapping_told = rw (ex, ey) refl

  pub check_exact : {X : Type 0} (r : Result X CheckRefusal) → checked r ≡ check_verdict xs ys p →
      IsOk r ↔ ((blank_count xs ≤ length p) × Isomorphism (graph_in xs) (graph_in ys) (place p))
  unfolding graph_in
  check_exact (Ok x) is =
      let v = told_accepted (mapping_verdict (graph_in xs) (graph_in ys) p) (is ∙ mapping_told) in (
        λ ok. (mapping_exact (graph_in xs) (graph_in ys) (accepted_well_formed xs ex) (accepted_well_formed ys ey) p).0 v,
        λ right. refl,
      )
  check_exact (Err r) is = (
    λ ok. let z : ◌≡◌ {A = ℕ} 0 1 = cc in absurd (omega arith),
    λ (long, right).
        let v = (mapping_exact (graph_in xs) (graph_in ys) (accepted_well_formed xs ex) (accepted_well_formed ys ey) p).1 long right in
        absurd (not_accepted r (is ∙ mapping_told ∙ rw v refl)),
  )
