-- Folds whose steps commute.
--
-- The order of a list without repeats does not count for such a fold, only its members do. So two lists give the same result if one is
-- the other renamed (`fold_renamed`): that is how every sum over the triples or the leaves of a graph is carried to an isomorphic one.
use Rattle.std.proofs.Common.{◌≡◌, ℕ, suc, Bool, true, List, [], ◌∷◌, ◌++◌, map, length, sym, refl, ap, ◌∙◌, arith}
use mathlib.Core.List.{foldr, flatten}
use Rattle.theory.specs.Lists.{member}
use Rattle.theory.proofs.Lists.{Decider, Apart, without, same_tells, without_member, without_other, without_itself, apart_without}

pub foldr_append : {X A : Type 0} (f : X → A → A) (a : A) (xs ys : List X) → foldr f a (xs ++ ys) ≡ foldr f (foldr f a ys) xs
foldr_append f a [] ys = refl
foldr_append f a (x ∷ xs) ys = ap (f x) (foldr_append f a xs ys)

pub foldr_map : {X Y A : Type 0} (f : Y → A → A) (a : A) (g : X → Y) (xs : List X) → foldr f a (map g xs) ≡ foldr (λ x z. f (g x) z) a xs
foldr_map f a g [] = refl
foldr_map f a g (x ∷ xs) = ap (f (g x)) (foldr_map f a g xs)

-- a fold over lists put together, as a fold of folds
pub foldr_flatten : {X Y A : Type 0} (f : Y → A → A) (a : A) (g : X → List Y) (xs : List X) → foldr f a (flatten (map g xs)) ≡ foldr (λ x z. foldr f z (g x)) a xs
unfolding flatten
foldr_flatten f a g [] = refl
foldr_flatten f a g (x ∷ xs) = foldr_append f a (g x) (flatten (map g xs)) ∙ ap (λ z. foldr f z (g x)) (foldr_flatten f a g xs)

pub foldr_length : {X : Type 0} (l : List X) → foldr (λ (x : X) (z : ℕ). suc z) 0 l ≡ length l
foldr_length [] = refl
foldr_length (x ∷ xs) = ap suc (foldr_length xs)

module _ {X A : Type 0} (f : X → A → A) (comm : (x y : X) (a : A) → f x (f y a) ≡ f y (f x a)) where
  pub foldr_in : (x : X) (a : A) (l : List X) → foldr f (f x a) l ≡ f x (foldr f a l)
  foldr_in x a [] = refl
  foldr_in x a (y ∷ ys) = ap (f y) (foldr_in x a ys) ∙ comm y x (foldr f a ys)

  pub foldr_comm : (l m : List X) (a : A) → foldr f (foldr f a m) l ≡ foldr f (foldr f a l) m
  foldr_comm [] m a = refl
  foldr_comm (x ∷ xs) m a = ap (f x) (foldr_comm xs m a) ∙ sym (foldr_in x (foldr f a xs) m)

module _ {X : Type 0} (same : X → X → Bool) (d : Decider same) where
  -- a member may be taken first
  pub pulled : {A : Type 0} (f : X → A → A) (comm : (x y : X) (a : A) → f x (f y a) ≡ f y (f x a)) (a : A) (x : X) (l : List X) →
      member same x l ≡ true → foldr f a l ≡ f x (foldr f a (without same x l))
  unfolding member without
  pulled f comm a x [] h = cc
  pulled f comm a x (z ∷ zs) h =
      let ih = pulled f comm a x zs in
      let t = same_tells same d x z in
      let c = comm x z (foldr f a (without same x zs)) in
      grind arith

  -- f over l is g over m, where m is l renamed
  pub fold_renamed : {A : Type 0} (f g : X → A → A) (comm : (x y : X) (a : A) → g x (g y a) ≡ g y (g x a)) (a : A)
      (P : X → Type 0) (to from : X → X) → ((x : X) → P x → P (from x)) → ((x : X) → P x → to (from x) ≡ x) → ((x : X) → P x → from (to x) ≡ x) →
      ((x : X) (a : A) → P x → g (to x) a ≡ f x a) →
      (l m : List X) → Apart same l → Apart same m → ((x : X) → member same x l ≡ true → P x) → ((x : X) → member same x m ≡ true → P x) →
      ((x : X) → P x → member same (to x) m ≡ member same x l) →
      foldr f a l ≡ foldr g a m
  unfolding member
  fold_renamed f g comm a P to from from_in back there agree [] [] hl hm pl pm e = refl
  fold_renamed f g comm a P to from from_in back there agree [] (y ∷ ys) hl hm pl pm e =
      let i = d.itself y in
      let p : P y = pm y (rw i) in
      let q = e (from y) (from_in y p) in
      let b = back y p in
      grind arith
  fold_renamed f g comm a P to from from_in back there agree (x ∷ xs) m hl hm pl pm e =
      let i = d.itself x in
      let p : P x = pl x (rw i) in
      let q = e x p in
      let h : member same (to x) m ≡ true = grind arith in
      let u = pulled g comm a (to x) m h in
      let rest : (y : X) → P y → member same (to y) (without same (to x) m) ≡ member same y xs = λ y py.
      let s = same_tells same d y x in
      let t = same_tells same d (to y) (to x) in
      let ty = there y py in let tx = there x p in
      let o = without_other same d (to x) (to y) m in
      let w = without_itself same d (to x) m hm in
      let ey = e y py in
      grind arith in
      let pl' : (y : X) → member same y xs ≡ true → P y = λ y k. pl y (let s = same_tells same d y x in grind arith) in
      let ih = fold_renamed f g comm a P to from from_in back there agree xs (without same (to x) m) hl.1 (apart_without same d (to x) m hm)
      pl' (λ y k. pm y (without_member same d (to x) y m k)) rest in
      let ag = agree x (foldr g a (without same (to x) m)) p in
      cc

  -- the same members: the same fold
  pub fold_same : {A : Type 0} (f : X → A → A) (comm : (x y : X) (a : A) → f x (f y a) ≡ f y (f x a)) (a : A) (l m : List X) → Apart same l → Apart same m →
      ((x : X) → member same x m ≡ member same x l) → foldr f a l ≡ foldr f a m
  fold_same f comm a l m hl hm e =
      fold_renamed f f comm a (λ _. Unit {0}) (λ x. x) (λ x. x) (λ _ p. p) (λ _ _. refl) (λ _ _. refl) (λ _ _ _. refl) l m hl hm (λ _ _. tt) (λ _ _. tt) (λ x _. e x)
