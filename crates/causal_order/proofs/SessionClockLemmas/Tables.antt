-- The table of the sessions from its parts.
use Rattle.std.proofs.Common.{◌≡◌, ℕ, ◌<◌, List, length, slice_get, Option, Some, None, option_and_then}
use Rattle.std.proofs.Common.{refl, sym, ap, subst, ◌∙◌, arith}
use Rattle.std.proofs.lemmas.Option.{slice_get_within}
use Rattle.history_model.specs.declared.operation.Operation.{Operation}
use Rattle.history_model.proofs.Lists.{slice_get_inside}
use Rattle.reg_levels.proofs.ClusterLemmas.Places.{at-below}
use Rattle.causal_order.specs.SessionClocks.Sessions.{IsAt, IsPrevious, IsSessionTable}
use Rattle.causal_order.specs.SessionClocks.Steps.{AreNumbers, ArePrevious, AreSources, IsLatestOf}
use Rattle.causal_order.specs.declared.session_clocks.table.SessionTable.{SessionTable}

module _ (ops : List Operation) (count : ℕ) (known : ℕ → Option ℕ) (numbers : List (Option ℕ))
    (h : AreNumbers ops (length ops) count known numbers) where
  -- the process of what has a number
  process-of : (p s : ℕ) (a : Operation) → IsAt ops p a → slice_get numbers p ≡ Some (Some s)
      → (x : ℕ) × (a.process ≡ Some x) × (known x ≡ Some s)
  process-of p s a at g = go a.process refl (h.each p a (Some s) at g)
    where
      go : (o : Option ℕ) → a.process ≡ o → Some s ≡ option_and_then known a.process
          → (x : ℕ) × (a.process ≡ Some x) × (known x ≡ Some s)
      go None e f = let bad : Some s ≡ None = f ∙ ap (option_and_then known) e in absurd (cc bad)
      go (Some x) e f = (x, e, sym (f ∙ ap (option_and_then known) e))

  number-of : (p x s : ℕ) (a : Operation) → IsAt ops p a → a.process ≡ Some x → known x ≡ Some s
      → slice_get numbers p ≡ Some (Some s)
  number-of p x s a at e k =
      let r = slice_get_inside numbers p (omega (arith, at-below ops p a at, h.places)) in
      r.1 ∙ ap Some (h.each p a r.0 at r.1 ∙ (ap (option_and_then known) e ∙ k))

  pub numbers-below : (p s : ℕ) → slice_get numbers p ≡ Some (Some s) → s < count
  numbers-below p s g =
      let within = slice_get_within numbers p (Some s) g in
      let a = slice_get_inside ops p (omega (arith, within, h.places)) in
      let x = process-of p s a.0 a.1 g in
      h.below x.0 s x.2

  is-previous : (p : ℕ) (a : Operation) (found : Option ℕ) → IsAt ops p a → (n : Option ℕ)
      → slice_get numbers p ≡ Some n → IsLatestOf numbers p n found → IsPrevious ops p a found
  is-previous p a found at None g is =
      subst (IsPrevious ops p a) (sym is) (λ q x b l at-b e f.
      let k = h.total p x a (at-below ops p a at) at e in
      let bad : Some None ≡ Some (Some k.0) = sym g ∙ number-of p x k.0 a at e k.1 in
      cc bad)
  is-previous p a None at (Some s) g is = λ q x b l at-b e f.
      let k = process-of p s a at g in
      let same : Some x ≡ Some k.0 = sym e ∙ k.1 in
      let one : x ≡ k.0 = cc same in
      is q l (number-of q x s b at-b f (ap known one ∙ k.2))
  is-previous p a (Some d) at (Some s) g is =
      let k = process-of p s a at g in
      let c = slice_get_inside ops d (omega (arith, is.0, at-below ops p a at)) in
      let m = process-of d s c.0 c.1 is.1 in
      let one = h.apart k.0 m.0 s k.2 m.2 in (
        k.0,
        c.0,
        is.0,
        c.1,
        k.1,
        m.1 ∙ ap Some (sym one),
        λ q b l at-b e. is.2 q l (number-of q k.0 s b at-b e k.2),
      )

  pub table-from : (previous sources : List (Option ℕ)) (table : SessionTable) → table.count ≡ count
      → table.numbers.items ≡ numbers → table.previous.items ≡ previous → table.sources.items ≡ sources
      → ArePrevious numbers (length numbers) previous → AreSources ops (length ops) sources
      → IsSessionTable ops table
  table-from previous sources table is-count is-numbers is-previous-list is-sources p s = record {
    numbers = ap length is-numbers ∙ h.places;
    previous = ap length is-previous-list ∙ (p.places ∙ h.places);
    sources = ap length is-sources ∙ s.places;
    none = λ q a at e.
        let r = slice_get_inside numbers q (omega (arith, at-below ops q a at, h.places)) in
        ap (λ xs. slice_get xs q) is-numbers
        ∙ (r.1 ∙ ap Some (h.each q a r.0 at r.1 ∙ ap (option_and_then known) e));
    some = λ q x a at e.
        let k = h.total q x a (at-below ops q a at) at e in
        (k.0, ap (λ xs. slice_get xs q) is-numbers ∙ number-of q x k.0 a at e k.1);
    same = λ q r n a b at-a at-b g.
        let x = process-of q n a at-a (sym (ap (λ xs. slice_get xs q) is-numbers) ∙ g) in (
          λ f.
              let z = process-of r n b at-b (sym (ap (λ xs. slice_get xs r) is-numbers) ∙ f) in
              x.1 ∙ (ap Some (h.apart x.0 z.0 n x.2 z.2) ∙ sym z.1),
          λ e. ap (λ xs. slice_get xs r) is-numbers ∙ number-of r x.0 n b at-b (sym e ∙ x.1) x.2,
        );
    below = λ q n g.
        let l = numbers-below q n (sym (ap (λ xs. slice_get xs q) is-numbers) ∙ g) in
        omega (arith, l, is-count);
    used = λ n l.
        let r = h.used n (omega (arith, l, is-count)) in
        (r.0, ap (λ xs. slice_get xs r.0) is-numbers ∙ r.1);
    each_previous = λ q a found at g.
        let n = slice_get_inside numbers q (omega (arith, at-below ops q a at, h.places)) in
        is-previous q a found at n.0 n.1
        (p.each q n.0 found n.1 (sym (ap (λ xs. slice_get xs q) is-previous-list) ∙ g));
    each_source = λ q a found at g.
        s.each q a found at (sym (ap (λ xs. slice_get xs q) is-sources) ∙ g);
  }
