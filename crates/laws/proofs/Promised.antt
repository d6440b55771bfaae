-- What an answer with one thing said beside its refusal promises, over any such answer: it carries the refusal's number and place; not
-- refused it means what is meant, refused it says nothing more. What was worked out keeps that, and where the meaning fixes what is said,
-- nothing else does.
use mathlib.Core.Path.{◌≡◌, sym, ◌∙◌, ap, ap₂}
use Prim.Native.Nat.{ℕ}
use native.Mathlib.Decide.{ℕ_discrete}
use Rattle.laws.specs.Choice.{unless_refused}
use Rattle.laws.proofs.Choice.{not-refused, is_refused}

-- An answer with a number, a place and one thing said; what nothing more to say is, and what is meant by the rest.
pub record Carries {A B : Type 0} (number place : A → ℕ) (said : A → B) (refusal at : ℕ) (silent : B) (Means : B → Type 0) (a : A) : Type 0 where
  pub numbered : number a ≡ refusal
  pub placed : place a ≡ at
  pub means : number a ≡ 0 → Means (said a)
  pub nothing : (number a ≡ 0 → ⊥) → said a ≡ silent

-- An answer is made of its three parts, and they are read off it again.
pub record Parts {A B : Type 0} (number place : A → ℕ) (said : A → B) (made : ℕ → ℕ → B → A) : Type 0 where
  pub number_of : (n p : ℕ) (b : B) → number (made n p b) ≡ n
  pub place_of : (n p : ℕ) (b : B) → place (made n p b) ≡ p
  pub said_of : (n p : ℕ) (b : B) → said (made n p b) ≡ b
  pub whole : (a : A) → made (number a) (place a) (said a) ≡ a

module _ {A B : Type 0} (number place : A → ℕ) (said : A → B) (made : ℕ → ℕ → B → A) (parts : Parts number place said made)
    (refusal at : ℕ) (silent worked : B) (Means : B → Type 0) (no_place : refusal ≡ 0 → at ≡ 0) where
  -- The whole answer: refused, or what was worked out.
  abbrev told : A
  told = unless_refused (refusal) (made (refusal) (at) silent) (made 0 0 worked)

  -- It keeps the promise, if what was worked out means what is meant.
  pub kept : (refusal ≡ 0 → Means worked) → Carries number place said refusal at silent Means told
  kept meant = decided (ℕ_discrete (refusal) 0)
    where
      decided : Dec (refusal ≡ 0) → Carries number place said refusal at silent Means told
      decided (yes zero) =
          rw (not-refused (refusal) (made (refusal) (at) silent) (made 0 0 worked) zero)
          (record {
            numbered = parts.number_of 0 0 worked ∙ sym zero;
            placed = parts.place_of 0 0 worked ∙ sym (no_place zero);
            means = λ none_holds. rw (parts.said_of 0 0 worked) (meant zero);
            nothing = λ one_holds. absurd (one_holds (parts.number_of 0 0 worked));
          })
      decided (no one_refused) =
          rw (is_refused (refusal) (made (refusal) (at) silent) (made 0 0 worked) one_refused)
          (record {
            numbered = parts.number_of _ _ silent;
            placed = parts.place_of _ _ silent;
            means = λ zero. absurd (one_refused (sym (parts.number_of _ _ silent) ∙ zero));
            nothing = λ one_holds. parts.said_of _ _ silent;
          })

  -- And only it does, if the meaning fixes what is said.
  pub fixed : (refusal ≡ 0 → (b : B) → Means b → b ≡ worked) → (a : A) → Carries number place said refusal at silent Means a → a ≡ told
  fixed only a carries = decided (ℕ_discrete (refusal) 0)
    where
      same : (n p : ℕ) (b : B) → number a ≡ n → place a ≡ p → said a ≡ b → a ≡ made n p b
      same n p b is_number is_place is_said =
          sym (parts.whole a)
          ∙ ap₂ (λ (n p : ℕ). made n p (said a)) is_number is_place
          ∙ ap (λ (b : B). made n p b) is_said

      decided : Dec (refusal ≡ 0) → a ≡ told
      decided (yes zero) =
          let none_holds : number a ≡ 0 = carries.numbered ∙ zero in
          same 0 0 worked none_holds (carries.placed ∙ no_place zero) (only zero (said a) (carries.means none_holds))
          ∙ sym (not-refused _ _ _ zero)
      decided (no one_refused) =
          same _ _ silent carries.numbered carries.placed (carries.nothing (λ zero. one_refused (sym carries.numbered ∙ zero)))
          ∙ sym (is_refused _ _ _ one_refused)
