-- `memory::arc_words` meets its contract. The loop's invariant: the words of the nodes passed are their arcs.
-- Assumes nothing.
use native.Mathlib.Omega.{arith}
use Prim.Native.Nat.{ℕ, ◌+◌, ◌<◌, ◌≤◌}
use mathlib.Core.Path.{◌≡◌, sym, subst, ◌∙◌}
use mathlib.Core.Logic.{◌⊎◌, inl, inr, ◌≢◌}
use mathlib.Core.List.{List}
use lib.ListN.{length, get_or, set, length-set, length-replicate, get_or-replicate}
use lib.Seq.{ext_get_or, get_or-set_same, get_or-set_other}
use Rattle.ancestors.proofs.Cases.{eq_or_ne, le_or_lt}
use Rattle.network.specs.Network.{Net}
use Rattle.network.specs.Arcs.{arcs_to, arc_words_of}
use Rattle.network.proofs.Arcs.{arc_words_long, arc_words_at}
use Rattle.memory.specs.Layout.{view}
use Rattle.memory.proofs.Laws.{few}
use Rattle.memory.proofs.ArcLaws.{arcs_none}
use Rattle.memory.proofs.arc_words.Invariants.{Passed}
use Rattle.memory.proofs.arc_words.Goals as goal

passed_next : (x : Net) (words : List ℕ) (r w : ℕ) → r < length words → Passed x words r → w ≡ arcs_to x r → Passed x (set words r w) (r + 1)
passed_next x words r w h p e =
    (λ k b. go k b (eq_or_ne k r), λ k b u. get_or-set_other words r k w 0 (λ q. omega (arith, q)) ∙ p.1 k (omega arith) u)
  where
    go : (k : ℕ) → k < r + 1 → (k ≡ r) ⊎ (k ≢ r) → get_or (set words r w) k 0 ≡ arcs_to x k
    go k b (inl q) = subst (λ i. get_or (set words r w) i 0 ≡ arcs_to x i) (sym q) (get_or-set_same words r w 0 h ∙ e)
    go k b (inr q) = get_or-set_other words r k w 0 q ∙ p.0 k (omega (arith, q))

passed_all : (xs words : List ℕ) → length words ≡ 32 → Passed (view xs) words (view xs).nodes → words ≡ arc_words_of (view xs)
passed_all xs words size p =
    ext_get_or 0 words (arc_words_of (view xs)) (size ∙ sym (arc_words_long (view xs))) (λ i h. go i (omega arith) (le_or_lt (view xs).nodes i) ∙ sym (arc_words_at (view xs) i (omega arith)))
  where
    go : (i : ℕ) → i < 32 → ((view xs).nodes ≤ i) ⊎ (i < (view xs).nodes) → get_or words i 0 ≡ arcs_to (view xs) i
    go i u (inl b) = p.1 i b u ∙ sym (arcs_none xs i b)
    go i u (inr b) = p.0 i b

pub loop-r-init : goal.loop-r-init
loop-r-init c =
    ((λ k h. absurd (omega arith), λ k _ u. get_or-replicate {A = ℕ} 32 k 0 0 u), length-replicate {A = ℕ} 32 0, omega arith, omega (arith, c.nodes-n.ensures, few c.args.net.now))

pub arc_word-requires : goal.arc_word-requires
arc_word-requires c = record {
  n_value = c.nodes-n.ensures;
  receiver_lt_max_nodes = omega (arith, c.nodes-n.ensures, few c.args.net.now);
}

pub loop-r-preserved : goal.loop-r-preserved
loop-r-preserved c =
    let l = c.loop-r in
    let x = view c.args.net.now in (
      passed_next x l.words l.r c.arc_word.result (omega (arith, l.invariant.1)) l.invariant.0 c.arc_word.ensures,
      length-set l.words l.r c.arc_word.result ∙ l.invariant.1,
      omega arith,
      omega arith,
    )

pub returns : goal.returns
returns c =
    let l = c.loop-r in
    let w = c.args.net.now in
    let e : l.r ≡ (view w).nodes = omega (arith, c.nodes-n.ensures) in
    passed_all w l.words l.invariant.1 (subst (Passed (view w) l.words) e l.invariant.0)
