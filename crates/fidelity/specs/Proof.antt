-- The proof of the statement, from what the manager keeps and what the reader keeps.
-- Assumes nothing.
use Rattle.std.specs.Prelude.{ℕ, true, ◌⊎◌, ◌≡◌, refl}
use mathlib.Core.List.Memᴰ
use mathlib.Core.List.{List, [], Memᴰ}
use Rattle.std.proofs.Common.{inl, inr, ap, sym, ◌∙◌, subst, arith, ltb-true, lt-ltb}
use Rattle.state.specs.State.{fresh, rebooted}
use Rattle.state.specs.declared.State.{State}
use Rattle.reader.specs.Reader.{is_behind}
use Rattle.reader.specs.ReaderLaws.{fresh-sound}
use Rattle.fidelity.specs.Pass.{Run, run_of, At, last_after, last_event, Ground, fresh_ground, ground_of, Missed}
use Rattle.fidelity.specs.Fidelity.{Fidelity}
use Rattle.fidelity.specs.ChainLaws.{chain_member, chain_last}
use Rattle.fidelity.specs.RunLaws.{Kept, run_kept}
use Rattle.fidelity.specs.GroundLaws.{Followed, follows}

followed-fresh : (number : ℕ) (r : Run) (k : Kept number r) → Followed number r.states r.blocks k.base [] (fresh_ground number)
followed-fresh number r k =
    record {
      rest = r.blocks;
      split = refl;
      next = refl;
      log = refl;
      own = fresh-sound number;
      known = k.first;
      past = refl;
      coming = k.chain;
      low = λ h. absurd (omega arith);
      high = λ b m none. absurd (Memᴰ.not-nil none);
    }

fresh_last : (bs : List (List ℕ)) → last_event bs ≡ last_after fresh.count bs
unfolding rebooted
fresh_last bs = refl

module _ (number : ℕ) (r : Run) (k : Kept number r) (delivered : List (List ℕ)) (w : Ground)
    (f : Followed number r.states r.blocks k.base delivered w) where
  apart : (b : List ℕ) → Memᴰ b w.applied → Memᴰ b f.rest → ⊥
  apart b m m' =
      omega (
        arith,
        f.next,
        (chain_member number r.states 0 fresh w.applied w.reader.state b f.past m).high,
        (chain_member number r.states w.reader.next w.reader.state f.rest k.base b f.coming m').low,
      )

  behind_missed : is_behind w.reader ≡ true → Missed r.blocks delivered w.applied
  behind_missed e =
      let (b, m, m', last) = f.low (ltb-true w.reader.next w.reader.heard e) in
      (b, subst (λ (l : List (List ℕ)). Memᴰ b l) (sym f.split) (Memᴰ.append_right w.applied m), m', λ done. apart b done m)

  missed_behind : Missed r.blocks delivered w.applied → is_behind w.reader ≡ true
  missed_behind (b, m, m', never) = either (Memᴰ.append_cases w.applied (rw f.split at m))
    where
      either : Memᴰ b w.applied ⊎ Memᴰ b f.rest → is_behind w.reader ≡ true
      either (inl done) = absurd (never done)
      either (inr left) =
          lt-ltb w.reader.next w.reader.heard
          (omega (
            arith,
            f.high b left m',
            (chain_member number r.states w.reader.next w.reader.state f.rest k.base b f.coming left).low,
          ))

  shows_last : f.rest ≡ [] → At r.states (last_event r.blocks) w.reader.state
  shows_last none =
      let reached : w.reader.state ≡ k.base = rw none at f.coming in
      let last : last_event r.blocks ≡ w.reader.state.count
      = fresh_last r.blocks
      ∙ chain_last number r.states 0 fresh r.blocks k.base k.chain
      ∙ sym (ap (λ (s : State). s.count) reached) in
      subst (λ (n : ℕ). At r.states n w.reader.state) (sym last) f.known

-- (a), (b) and (c)
pub fidelity : Fidelity
unfolding ground_of followed-fresh
fidelity number small operations bytes delivered came =
    let r : Run = run_of number operations in
    let k : Kept number r = run_kept number small operations bytes in
    let start : Followed number r.states r.blocks k.base [] (fresh_ground number) = followed-fresh number r k in
    let all = follows number r.states r.blocks k.base delivered [] delivered refl (fresh_ground number) start came in
    record {
      shown = all.0.known;
      behind = (
        behind_missed number r k delivered (ground_of number delivered) all.0,
        missed_behind number r k delivered (ground_of number delivered) all.0,
      );
      complete = λ ordered. shows_last number r k delivered (ground_of number delivered) all.0 (all.1 ordered);
    }
