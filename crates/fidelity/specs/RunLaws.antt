-- What a manager that began fresh keeps, whatever it is asked: its blocks are a chain from the fresh state to the state at which the
-- open block began, and the open block's records lead from there to its present state. Each of these states is in its history.
-- Assumes nothing.
use Rattle.std.specs.Prelude.{ℕ, zero, suc, ◌+◌, ◌^◌, ◌<◌, ◌≤◌, true, false, List, [], ◌∷◌, ◌++◌, ◌⊎◌, ◌≡◌, refl, length}
use Rattle.std.proofs.Common.{inl, inr, ap, sym, ◌∙◌, zero-add, arith, length-append}
use Rattle.kinds.specs.Kinds.{last_number}
use Rattle.state.specs.State.{fresh, rebooted}
use Rattle.events.specs.Event.{parts_of_event}
use Rattle.records.specs.Record.{most_records}
use Rattle.state.specs.declared.State.{State}
use Rattle.kinds.specs.declared.answer.Answer.{Answer}
use Rattle.events.specs.declared.Event.{Event}
use Rattle.layout.specs.Bytes.{AreBytes}
use Rattle.blocks.specs.Block.{used_most, block_bytes}
use Rattle.layout.specs.EventLaws.{event-fits}
use Rattle.blocks.specs.declared.block.Head.{Head}
use Rattle.draft.specs.declared.Draft.{Draft}
use Rattle.rules.specs.Ruling.{ruling_of}
use Rattle.manager.specs.Log.{blank_records, records_with, head_with, head_next}
use Rattle.manager.specs.LogLaws.{state_sound, log_clauses}
use Rattle.manager.specs.Manager.{fresh_head, both_sound, is_logged, Outcome, kept, added, turned, manager_step, manager_flush}
use Rattle.manager.specs.CaseLaws.{Heard, flush_cases}
use Rattle.manager.proofs.StepLaws.{step_cases}
use Rattle.fidelity.specs.Pass.{Operation, stepping, flushing, EventBytes, Run, fresh_run, after_step, after_flush, after_all, run_of, At}
use Rattle.fidelity.specs.Interface.{whole, Ruled}
use Rattle.fidelity.specs.InterfaceLaws.{ruled}
use Rattle.fidelity.specs.Chain.{Link, Chain}
use Rattle.fidelity.specs.ChainLaws.{at_longer, at_end, at_cases, chain_longer, chain_more, link_at}
use Rattle.fidelity.specs.Open.{Open}
use Rattle.fidelity.specs.OpenLaws.{open_blank, open_more, closed_link}

-- What is kept -----------------------------------------------------------------------------------------------------------------

pub record Kept (number : ℕ) (r : Run) : Type 0 where
  pub base : State
  pub opened : Open base r.manager.core.head r.manager.records r.manager.core.state
  pub log : r.manager.core.head.number ≡ number
  pub blocks : r.manager.core.head.block ≡ length r.blocks
  pub most : r.manager.core.state.count ≤ last_number
  pub long : length r.states ≡ r.manager.core.state.count + 1
  pub numbered : (n : ℕ) (s : State) → At r.states n s → s.count ≡ n
  pub first : At r.states fresh.count fresh
  pub now : At r.states r.manager.core.state.count r.manager.core.state
  pub chain : Chain number r.states 0 fresh r.blocks base

fresh-numbered : (n : ℕ) (s : State) → At (fresh ∷ []) n s → s.count ≡ n
unfolding rebooted
fresh-numbered zero s e = sym (ap (λ (t : State). t.count) e)
fresh-numbered (suc n) s e = absurd e

kept_fresh : (number : ℕ) → Kept number (fresh_run number)
unfolding rebooted
kept_fresh number =
    record {
      base = fresh;
      opened = open_blank fresh (fresh_head number) refl refl;
      log = refl;
      blocks = refl;
      most = omega arith;
      long = refl;
      numbered = fresh-numbered;
      first = refl;
      now = refl;
      chain = refl;
    }

-- the manager's present state, and its open block
abbrev now : Run → State
now r = r.manager.core.state

abbrev head : Run → Head
head r = r.manager.core.head

abbrev records : Run → List ℕ
records r = r.manager.records

module _ (number : ℕ) (small : number < 2 ^ 32) (r : Run) (k : Kept number r) where
  -- an answer that logs nothing leaves the run as it was
  kept_refused : (lent : List ℕ) (answer : Answer) → is_logged answer ≡ false
      → Kept number (after_step r (kept (now r) (head r) (records r) lent answer))
  kept_refused lent answer none = rw none k

  -- the open block is closed
  abbrev closed_run : Run
  closed_run =
      record {
        manager = record { core = record { state = now r; head = head_next (head r) 0 (now r).count }; records = blank_records };
        states = r.states;
        blocks = r.blocks ++ block_bytes (head r) (records r) ∷ [];
      }

  module _ (both : both_sound (now r) (head r) (records r) ≡ true) (some : (head r).used ≡ 0 → ⊥) where
    closed_block : Link number (0 + length r.blocks) k.base (block_bytes (head r) (records r)) (now r)
    closed_block =
        link_at number (0 + length r.blocks) k.log (k.blocks ∙ sym (zero-add (length r.blocks)))
        (closed_link k.base (now r) (head r) (records r) k.opened (rw k.log small) some (log_clauses (now r) (head r) (records r) both) k.most)

    kept_closed : Kept number closed_run
    kept_closed =
        record {
          base = now r;
          opened = open_blank (now r) (head_next (head r) 0 (now r).count) refl refl;
          log = k.log;
          blocks = ap (λ (n : ℕ). n + 1) k.blocks ∙ sym (length-append r.blocks (block_bytes (head r) (records r) ∷ []));
          most = k.most;
          long = k.long;
          numbered = k.numbered;
          first = k.first;
          now = k.now;
          chain =
              chain_more number r.states 0 fresh r.blocks k.base (now r) (block_bytes (head r) (records r)) k.chain closed_block k.now;
        }

  -- an event's records go into the open block
  module _ (d : Draft) (h : Head) (e : Ruled (now r) d) (below : (now r).count < last_number) (room : (head r).used + d.used ≤ used_most)
      (log : h.number ≡ (head r).number) (block : h.block ≡ (head r).block) (used : h.used ≡ (head r).used + d.used)
      (before : h.before ≡ (head r).before) where
    abbrev added_run : Run
    added_run =
        record {
          manager = record { core = record { state = d.state; head = h }; records = records_with (records r) (head r).used d };
          states = r.states ++ d.state ∷ [];
          blocks = r.blocks;
        }

    count_after : d.state.count ≡ (now r).count + 1
    count_after = ap (λ (u : State). u.count) e.state ∙ e.number

    numbered-after : (n : ℕ) (s : State) → At r.states n s ⊎ ((n ≡ length r.states) × (d.state ≡ s)) → s.count ≡ n
    numbered-after n s (inl before) = k.numbered n s before
    numbered-after n s (inr last) = sym (ap (λ (u : State). u.count) last.1) ∙ count_after ∙ sym k.long ∙ sym last.0

    kept-added : Kept number added_run
    kept-added =
        record {
          base = k.base;
          opened = open_more k.base (now r) (head r) h (records r) d k.opened e room used before;
          log = log ∙ k.log;
          blocks = block ∙ k.blocks;
          most = omega (arith, count_after);
          long = length-append r.states (d.state ∷ []) ∙ omega (arith, k.long, count_after);
          numbered = λ n s at. numbered-after n s (at_cases r.states d.state n s at);
          first = at_longer r.states (d.state ∷ []) fresh.count fresh k.first;
          now = at_end r.states d.state.count d.state (k.long ∙ sym count_after);
          chain = chain_longer number r.states (d.state ∷ []) 0 fresh r.blocks k.base k.chain;
        }

-- A step and a flush -----------------------------------------------------------------------------------------------------------

module _ (number : ℕ) (small : number < 2 ^ 32) (r : Run) (k : Kept number r) where
  kept_flush : (lent : List ℕ) → Kept number (after_flush r (manager_flush r.manager lent))
  kept_flush lent =
      flush_cases (now r) (head r) (records r) lent (λ (o : Outcome). Kept number (after_flush r o)) (λ _ _. k)
      (λ filled. kept_closed number small r k filled.both filled.some)

  module _ (event lent : List ℕ) (bytes : AreBytes event) where
    abbrev draft : Event → Draft
    draft e = (ruling_of (now r) e).draft

    module _ (e : Event) (heard : Heard (now r) (head r) (records r) lent event e) where
      below : (now r).count < last_number
      below = omega (arith, k.most, heard.below)

      ruling : Ruled (now r) (draft e)
      ruling =
          let fit : ((parts_of_event e).a < 2 ^ 32) × ((parts_of_event e).b < 2 ^ 32) = event-fits event e bytes heard.read in
          ruled (now r) e (state_sound (now r) (head r) (records r) heard.both) below fit.0 fit.1

      few : (draft e).used ≤ most_records
      few =
          omega (
            arith,
            ruling.used,
            length-append ruling.actions (whole (now r) [] ruling.status),
            ruling.few,
          )

      step_added : (head r).used + (draft e).used ≤ used_most
          → Kept number (after_step r (added (now r) (head r) (records r) lent (ruling_of (now r) e)))
      step_added room =
          kept-added number small r k (draft e) (head_with (head r) (draft e)) ruling below room refl refl refl refl

      step_turned : used_most < (head r).used + (draft e).used
          → Kept number (after_step r (turned (now r) (head r) (records r) lent (ruling_of (now r) e)))
      step_turned full =
          let some : (head r).used ≡ 0 → ⊥ = λ none. omega (arith, few) in
          kept-added number small (closed_run number small r k) (kept_closed number small r k heard.both some) (draft e)
          (head_next (head r) (draft e).used (now r).count) ruling below
          (omega (arith, few)) refl refl (sym (zero-add (draft e).used)) refl

    kept_step : Kept number (after_step r (manager_step r.manager event lent))
    kept_step =
        step_cases (now r) (head r) (records r) lent (λ (o : Outcome). Kept number (after_step r o)) (kept_refused number small r k lent) event
        step_added step_turned

-- Any operations ---------------------------------------------------------------------------------------------------------------

kept-all : (number : ℕ) → number < 2 ^ 32 → (os : List Operation) → EventBytes os → (r : Run) → Kept number r
    → Kept number (after_all r os)
kept-all number small [] bytes r k = k
kept-all number small (stepping event lent ∷ os) bytes r k =
    kept-all number small os bytes.1 (after_step r (manager_step r.manager event lent)) (kept_step number small r k event lent bytes.0)
kept-all number small (flushing lent ∷ os) bytes r k =
    kept-all number small os bytes (after_flush r (manager_flush r.manager lent)) (kept_flush number small r k lent)

pub run_kept : (number : ℕ) → number < 2 ^ 32 → (os : List Operation) → EventBytes os → Kept number (run_of number os)
unfolding run_of
run_kept number small os bytes = kept-all number small os bytes (fresh_run number) (kept_fresh number)

-- the states of a run stand under their own numbers: the n-th is one in which n events were counted
pub run_numbered : (number : ℕ) → number < 2 ^ 32 → (os : List Operation) → EventBytes os → (n : ℕ) (s : State)
    → At (run_of number os).states n s → s.count ≡ n
run_numbered number small os bytes = (run_kept number small os bytes).numbered
