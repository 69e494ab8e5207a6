-- The first term of each number, and the signatures of the others.
use Rattle.std.specs.Prelude.{◌≡◌, ◌≢◌, ℕ, ◌+◌, ◌<◌, ◌≤◌, Bool as Truth, true, false, List, length, slice_index_or, Option, Some, None, nat_eq}
use Rattle.std.specs.HashMap.{HashMap, get}
use Rattle.std.specs.Bool.{Decides}
use Rattle.std.proofs.Common.{refl, sym, ap, ◌∙◌, subst, arith, inl, inr, suc}
use Rattle.std.proofs.lemmas.Bool.{false≢true}
use Rattle.std.proofs.lemmas.Bool.Decides.{leb_tells, eqb_tells}
use Rattle.std.proofs.lemmas.Option.{none-some, same_Some}
use Rattle.uc_ops.specs.declared.node.Node.{Node}
use Rattle.uc_terms.specs.Subterms.{Marked}
use Rattle.uc_solver.specs.declared.signature.Kind.{Kind}
use Rattle.uc_solver.specs.Signatures.{number_at, HaveOneSignature, AreEven, IsNamed, AreFirst, IsStep, skipped, first, again, IsEarlier}

pub signature_itself : (nodes : List Node) (k : ℕ) → HaveOneSignature nodes k k
signature_itself nodes k = record { result = refl; arguments = refl }

two_of_one : (nodes : List Node) (f j k : ℕ) → HaveOneSignature nodes f j → HaveOneSignature nodes f k → HaveOneSignature nodes j k
two_of_one nodes f j k a b = record { result = sym a.result ∙ b.result; arguments = sym a.arguments ∙ b.arguments }

widened : (kind : Kind) (nodes : List Node) (marks : List Truth) (place number j : ℕ) → IsNamed kind nodes marks place number j → IsNamed kind nodes marks (place + 1) number j
widened kind nodes marks place number j n = record { below = omega (arith, n.below); marked = n.marked; named = n.named }

pub none_first : (kind : Kind) (nodes : List Node) (marks : List Truth) (m : ℕ → Option ℕ) → ((n : ℕ) → m n ≡ None) → AreFirst kind nodes marks 0 m
none_first kind nodes marks m h = record {
  sound = λ number j e. absurd (none-some j (sym (h number) ∙ e));
  complete = λ k number n. absurd (omega (arith, n.below));
}

abbrev Known : Kind → List Node → (ℕ → Option ℕ) → ℕ → ℕ → Type 0
Known kind nodes m k number = (j : ℕ) × (m number ≡ Some j) × HaveOneSignature nodes j k

-- what is named below the next place is named below this one, or is here
each_known : (kind : Kind) (nodes : List Node) (marks : List Truth) (place : ℕ) (before after : ℕ → Option ℕ) → AreFirst kind nodes marks place before
    → ((k number : ℕ) → IsNamed kind nodes marks place number k → Known kind nodes before k number → Known kind nodes after k number)
    → ((number : ℕ) → Marked marks place → number_at kind nodes place ≡ Some number → Known kind nodes after place number)
    → (k number : ℕ) → IsNamed kind nodes marks (place + 1) number k → Known kind nodes after k number
each_known kind nodes marks place before after h more here k number n =
    elim (leb_tells (suc k) place) [
      | inl x ↦ let m : IsNamed kind nodes marks place number k = record { below = x.1; marked = n.marked; named = n.named } in more k number m (h.complete k number m)
      | inr x ↦
          let e : k ≡ place = omega (arith, n.below, x.1) in
          subst (λ i. Known kind nodes after i number) (sym e) (here number (subst (Marked marks) e n.marked) (subst (λ i. number_at kind nodes i ≡ Some number) e n.named))
    ]

kept : (kind : Kind) (nodes : List Node) (before after : ℕ → Option ℕ) → ((n : ℕ) → after n ≡ before n) → (k number : ℕ) → Known kind nodes before k number → Known kind nodes after k number
kept kind nodes before after g k number x = (x.0, g number ∙ x.1, x.2)

kept_sound : (kind : Kind) (nodes : List Node) (marks : List Truth) (place : ℕ) (before after : ℕ → Option ℕ) → AreFirst kind nodes marks place before → ((n : ℕ) → after n ≡ before n)
    → (number j : ℕ) → after number ≡ Some j → IsNamed kind nodes marks (place + 1) number j
kept_sound kind nodes marks place before after h g number j e = widened kind nodes marks place number j (h.sound number j (sym (g number) ∙ e))

pub first_step : (kind : Kind) (nodes : List Node) (marks : List Truth) (place : ℕ) (marked fine : Truth) (before after : ℕ → Option ℕ) → marked ≡ slice_index_or marks place false → fine ≡ true
    → IsStep kind nodes marked place before after fine → AreFirst kind nodes marks place before → AreFirst kind nodes marks (place + 1) after
first_step kind nodes marks place marked fine before after m t (skipped n g e) h = record {
  sound = kept_sound kind nodes marks place before after h g;
  complete = each_known kind nodes marks place before after h (λ k number x. kept kind nodes before after g k number)
      (λ number mk named. absurd (none-some number (sym (n (m ∙ mk)) ∙ named)));
}
first_step kind nodes marks place marked fine before after m t (first number mk named b a g e) h = record {
  sound = λ other j is. elim (eqb_tells other number) [
    | inl x ↦
        let here : j ≡ place = same_Some j place (sym is ∙ ap after x.1 ∙ a) in
        let at : number_at kind nodes place ≡ Some other = named ∙ ap Some (sym x.1) in
        subst (IsNamed kind nodes marks (place + 1) other) (sym here) (record { below = omega arith; marked = sym m ∙ mk; named = at })
    | inr x ↦ widened kind nodes marks place other j (h.sound other j (sym (g other x.1) ∙ is))
  ];
  complete = each_known kind nodes marks place before after h
      (λ k other n known. elim (eqb_tells other number) [
        | inl x ↦ absurd (none-some known.0 (sym b ∙ ap before (sym x.1) ∙ known.1))
        | inr x ↦ (known.0, g other x.1 ∙ known.1, known.2)
      ])
      (λ other mk' named'.
      let same : other ≡ number = same_Some other number (sym named' ∙ named) in
      (place, ap after same ∙ a, signature_itself nodes place));
}
first_step kind nodes marks place marked fine before after m t (again number j mk named b g d) h = record {
  sound = kept_sound kind nodes marks place before after h g;
  complete = each_known kind nodes marks place before after h (λ k other x. kept kind nodes before after g k other)
      (λ other mk' named'.
      let same : other ≡ number = same_Some other number (sym named' ∙ named) in
      (j, g other ∙ ap before same ∙ b, d.0 t));
}

-- a number with two signatures is found
pub first_fails : (kind : Kind) (nodes : List Node) (marks : List Truth) (place : ℕ) (marked fine : Truth) (before after : ℕ → Option ℕ) → place < length marks → marked ≡ slice_index_or marks place false → fine ≡ false
    → IsStep kind nodes marked place before after fine → AreFirst kind nodes marks place before → AreEven kind nodes marks (length marks) → ⊥
first_fails kind nodes marks place marked fine before after l m f (skipped n g e) h even = false≢true (sym f ∙ e)
first_fails kind nodes marks place marked fine before after l m f (first number mk named b a g e) h even = false≢true (sym f ∙ e)
first_fails kind nodes marks place marked fine before after l m f (again number j mk named b g d) h even =
    let n = h.sound number j b in
    false≢true (sym f ∙ d.1 (even j place number (omega (arith, n.below, l)) l n.marked (sym m ∙ mk) n.named named))

-- where the first terms of all numbers are known, and no other was found, each number has one signature
pub all_even : (kind : Kind) (nodes : List Node) (marks : List Truth) (place : ℕ) (m : ℕ → Option ℕ) → length marks ≤ place → AreFirst kind nodes marks place m → AreEven kind nodes marks (length marks)
all_even kind nodes marks place m l h j k number a b mj mk nj nk =
    let first_j = h.complete j number (record { below = omega (arith, a, l); marked = mj; named = nj }) in
    let first_k = h.complete k number (record { below = omega (arith, b, l); marked = mk; named = nk }) in
    let e : first_j.0 ≡ first_k.0 = same_Some first_j.0 first_k.0 (sym first_j.1 ∙ first_k.1) in
    two_of_one nodes first_k.0 j k (subst (λ f. HaveOneSignature nodes f j) e first_j.2) first_k.2

pub earlier_of : (kind : Kind) (nodes : List Node) (marks : List Truth) (place : ℕ) (m : ℕ → Option ℕ) → AreFirst kind nodes marks place m → (number j : ℕ) → m number ≡ Some j → IsEarlier kind nodes place number j
earlier_of kind nodes marks place m h number j e = let n = h.sound number j e in record { below = n.below; named = n.named }

other_number : (n number : ℕ) → n ≢ number → nat_eq number n ≡ false
other_number n number apart = elim (eqb_tells number n) [ inl x ↦ absurd (apart (sym x.1)) | inr x ↦ x.0 ]

pub again_step : (kind : Kind) (nodes : List Node) (marked : Truth) (place here : ℕ) (m : ℕ → Option ℕ) (fine : Truth) (number j : ℕ) → marked ≡ true → number_at kind nodes place ≡ Some number → m number ≡ Some j → here ≡ place
    → Decides fine (HaveOneSignature nodes j here) → IsStep kind nodes marked place m m fine
again_step kind nodes marked place here m fine number j mk named known e d = again number j mk named known (λ n. refl) (subst (λ p. Decides fine (HaveOneSignature nodes j p)) e d)

pub new_step : (kind : Kind) (nodes : List Node) (marked : Truth) (place : ℕ) {S T : Type 0} (old : HashMap ℕ ℕ S) (new : HashMap ℕ ℕ T) (number : ℕ) → marked ≡ true → number_at kind nodes place ≡ Some number → get nat_eq old number ≡ None
    → get nat_eq new number ≡ Some place → ((q : ℕ) → nat_eq number q ≡ false → get nat_eq new q ≡ get nat_eq old q) → IsStep kind nodes marked place (get nat_eq old) (get nat_eq new) true
new_step kind nodes marked place old new number mk named none here rest = first number mk named none here (λ n apart. rest n (other_number n number apart)) refl
