-- Demands 1 and 2 over the serving calls, by any transport: theorems about every call that meets its promise.
-- Assumes nothing.
use Prim.Native.Nat.{ℕ, ◌<◌, ◌≤◌}
use native.Mathlib.Omega.{arith}
use mathlib.Core.Path.{◌≡◌, refl, sym, ap, subst, ◌∙◌}
use mathlib.Core.Bool.{Bool, true, false, cond}
use mathlib.Core.List.{List, [], ◌∷◌, ◌++◌}
use mathlib.Core.Logic.{◌⊎◌, inl, inr}
use borrow.Author.Tests.{eqb-false}
use lib.ListN.{length, get_or, take, drop}
use lib.Seq.{drop_at}
use lib.Dec.{eqb, ltb}
use Rattle.protocol.specs.Numbers.{done, unsound, no_room, disabled, no_reading, not_saved, no_such_node, no_such_property, DISABLED, NAK, op_write, save_failed, save_done, save_none}
use Rattle.protocol.specs.Bytes.{Bytes, word, text}
use Rattle.protocol.specs.Frame.{frame, datagram, wrap}
use Rattle.protocol.specs.Buffer.{over}
use Rattle.protocol.specs.Request.{Request}
use Rattle.protocol.specs.Tree.{Tree, Cell, property_in, cell_in}
use Rattle.protocol.specs.Path.{failure_number, number01}
use Rattle.protocol.specs.Answer.{Answer, plain, stored, Outcome, saved, taken, read_only, out_of_range, off_step, outcome, save_byte, reason, write_number, action_of, cells_after, echo_indexed, write_reply, refusal_code, on_write, answer}
use Rattle.protocol.proofs.BufferLaws.{over_nil, over_front}
use Rattle.protocol.proofs.FrameLaws.{frame_injective, datagram_injective}
use Rattle.protocol.proofs.AnswerLaws as laws
use Rattle.protocol.proofs.AnswerLaws.{Answered, answered, refused, no_node_case, no_property_case, acknowledged, node_described, record-described, word_read, written, open_probe, cells_stay_sound, write_answered, write_accepted, write_holds, saved_done, others_stay, refusal_keeps}
use Rattle.protocol.proofs.RuleLaws.{host_off}
use Rattle.protocol.proofs.PathLaws.{number_kept}
use Rattle.cells.specs.Cells.{cells_form, cells_in}
use Rattle.cells.specs.Lent.{is_lent}
use Rattle.cells.proofs.CellLaws.{cells_in_form, lent_form}
use Rattle.answer.specs.Serve.{action_number}
use Rattle.answer.specs.Serve.{Open, rejected, in_form, Call, serving, data_call, serial_call, udp_call, serve_data, serve_serial, serve_udp, Serves}
use Rattle.answer.proofs.ReadLaws.{Early, early_sized, early_frame, early_datagram}
use Rattle.answer.proofs.ServeLaws.{answer_to, serve_by, serve_good}
use Rattle.demands.specs.Serving.{tree_in, cell_at, AsksOpenProbe, WritesTo, SavesTo, outcome_in, accepted_reply, Refusal, code, not_saved_case, Kept}
use Rattle.demands.proofs.Forms.{cells_width, cells_sound_in}

-- What is assumed of the form of a transport: no string is the form of two replies, and no form of a reply is empty.
record Transport (k : Call) : Type 0 where
  injective : (x y : List ℕ) → k.form x ≡ k.form y → x ≡ y
  nonempty : (b : ℕ) (bs : List ℕ) → k.form (b ∷ bs) ≡ [] → ⊥

-- The number of an answer is 0, one of rows 9 to 13, 15 or 16, and with 13 a write is not saved.
unsaved : (o : Outcome) → 0 < write_number o → (write_number o ≡ not_saved) × (save_byte o ≡ save_failed)
unfolding write_number save_byte
unsaved saved h = absurd (omega arith)
unsaved taken h = absurd (omega arith)
unsaved read_only h = (refl, refl)
unsaved out_of_range h = (refl, refl)
unsaved off_step h = (refl, refl)

late : (t : Tree) (cs : List Cell) (bs : List ℕ) {a : Answer} → Answered t cs bs a → 0 < a.number → disabled ≤ a.number
unfolding on_write failure_number
late t cs bs (refused n h k s) p = h
late t cs bs (no_node_case r e h u) p = omega arith
late t cs bs (no_property_case r node e h u v) p = omega arith
late t cs bs acknowledged p = absurd (omega arith)
late t cs bs (node_described r node e) p = absurd (omega arith)
late t cs bs (record-described r place e) p = absurd (omega arith)
late t cs bs (word_read r place e) p = absurd (omega arith)
late t cs bs (written r place w) p = omega (arith, (unsaved (outcome (property_in t place) r.value) p).0)

-- What the save byte of a reply tells.
save_byte_lem : (o : Outcome) (r : Request) (save : ℕ) → write_reply o r ≡ accepted_reply r save → save_byte o ≡ save
unfolding write_reply accepted_reply word
save_byte_lem o r save e =
    let front : List ℕ = echo_indexed r in
    sym (ap (λ l. get_or l 5 0) (drop_at front (0 ∷ (word r.value ++ save_byte o ∷ cond (eqb r.op op_write) [] (text (reason o)))) (length front) refl))
    ∙ ap (λ l. get_or (drop (length front) l) 5 0) e
    ∙ ap (λ l. get_or l 5 0) (drop_at front (0 ∷ (word r.value ++ save ∷ cond (eqb r.op op_write) [] (text []))) (length front) refl)

accepted_reply_lem : (form : List ℕ → List ℕ) (o : Outcome) (r : Request) {sent : List ℕ} → write_number o ≡ done → sent ≡ form (write_reply o r)
    → (sent ≡ form (accepted_reply r save_done)) ⊎ (sent ≡ form (accepted_reply r save_none))
unfolding write_number write_reply save_byte reason accepted_reply
accepted_reply_lem form saved r e is = inl is
accepted_reply_lem form taken r e is = inr is
accepted_reply_lem form read_only r e is = absurd (omega arith)
accepted_reply_lem form out_of_range r e is = absurd (omega arith)
accepted_reply_lem form off_step r e is = absurd (omega arith)

save_saved : (o : Outcome) → save_byte o ≡ save_done → o ≡ saved
unfolding save_byte
save_saved saved e = refl
save_saved taken e = absurd (omega arith)
save_saved read_only e = absurd (omega arith)
save_saved out_of_range e = absurd (omega arith)
save_saved off_step e = absurd (omega arith)

save_taken : (o : Outcome) → save_byte o ≡ save_none → o ≡ taken
unfolding save_byte
save_taken saved e = absurd (omega arith)
save_taken taken e = refl
save_taken read_only e = absurd (omega arith)
save_taken out_of_range e = absurd (omega arith)
save_taken off_step e = absurd (omega arith)

asked_58 : (k : Call) → AsksOpenProbe k
    → answer (tree_in k) (cells_in k.cells) true k.string.payload ≡ plain (cells_in k.cells) no_reading (NAK ∷ [])
asked_58 k a =
    open_probe (tree_in k) (cells_in k.cells) k.string.payload a.request a.place a.asks a.reads a.finds a.live a.not_ready

-- With host functions on a write is answered by its outcome.
pub written_on : (k : Call) → k.host ≡ true → (r : Request) (place : ℕ) → WritesTo k r place
    → answer_to k ≡ on_write (cells_in k.cells) place r (outcome_in k r place)
written_on k on r place w =
    ap (λ b. answer (tree_in k) (cells_in k.cells) b k.string.payload) on
    ∙ write_answered (tree_in k) (cells_in k.cells) k.string.payload r place w

-- A call that answers with 0, by whatever transport: it gives the answer, host functions are on, and a write is answered by its outcome.
module _ (k : Call) {out cells' out' : List ℕ} {n size action missing : ℕ} (h : Serves (serving k) out n size action missing cells' out') (d : n ≡ done) where
  pub done_answered : n ≡ (answer_to k).number
  done_answered = go (is_lent k.tree k.cells) (ltb k.room k.least) (eqb k.string.number done) refl refl refl
    where
      go : (a b c : Bool) → is_lent k.tree k.cells ≡ a → ltb k.room k.least ≡ b → eqb k.string.number done ≡ c
          → n ≡ (answer_to k).number
      go true true c p q e = absurd (omega (arith, d, h.number ∙ ap (λ x. x.number) (serve_by k true true c p q e)))
      go true false true p q e = h.number ∙ ap (λ x. x.number) (serve_by k true false true p q e)
      go true false false p q e =
          absurd (eqb-false k.string.number done e (sym (h.number ∙ ap (λ x. x.number) (serve_by k true false false p q e)) ∙ d))
      go false b c p q e = absurd (omega (arith, d, h.number ∙ ap (λ x. x.number) (serve_by k false b c p q e)))

  done_enabled : k.host ≡ true
  done_enabled = go k.host refl
    where
      go : (b : Bool) → k.host ≡ b → k.host ≡ true
      go true e = e
      go false e =
          absurd (omega (
            arith,
            d,
            done_answered
                ∙ ap (λ b. (answer (tree_in k) (cells_in k.cells) b k.string.payload).number) e
                ∙ ap (λ a. a.number) (host_off (tree_in k) (cells_in k.cells) k.string.payload),
          ))

  pub done-written : (r : Request) (place : ℕ) → WritesTo k r place
      → answer_to k ≡ on_write (cells_in k.cells) place r (outcome_in k r place)
  done-written r place w = written_on k done_enabled r place w

-- A call by a transport whose rows 2 to 7 come before 9.
module _ (k : Call) (early : Early k.string) {out cells' out' : List ℕ} {n size action missing : ℕ}
    (h : Serves (serving k) out n size action missing cells' out')
  where
    abbrev t : Tree
    t = tree_in k

    abbrev cs : List Cell
    cs = cells_in k.cells

    abbrev bs : List ℕ
    bs = k.string.payload

    -- A call is refused with one of rows 1 to 8, or gives the answer.
    pub record NotServed : Type 0 where
      pub some_row : 0 < n
      pub before : n < disabled
      pub same_cells : cells' ≡ k.cells
      pub same_output : out' ≡ out
      pub nothing : take size out' ≡ []
      pub no_part : missing ≡ 0

    pub record Served : Type 0 where
      pub lent : is_lent k.tree k.cells ≡ true
      pub gives : Serves (in_form k.form (answer_to k)) out n size action missing cells' out'

    refuses : (m : ℕ) → 0 < m → m < disabled → serving k ≡ rejected k.cells m → NotServed
    refuses m p q e =
        let s : Serves (rejected k.cells m) out n size action missing cells' out' = subst (λ w. Serves w out n size action missing cells' out') e h in
        record {
          some_row = omega (arith, s.number);
          before = omega (arith, s.number);
          same_cells = s.cells;
          same_output = s.bytes ∙ over_nil out;
          nothing = over_front [] out s.len s.bytes;
          no_part = s.tells;
        }

    serves : is_lent k.tree k.cells ≡ true → serving k ≡ in_form k.form (answer_to k) → Served
    serves l e = record { lent = l; gives = subst (λ w. Serves w out n size action missing cells' out') e h }

    pub handled : {A : Type 0} → (NotServed → A) → (Served → A) → A
    handled {A} f g = go (is_lent k.tree k.cells) (ltb k.room k.least) (eqb k.string.number done) refl refl refl
      where
        go : (a b c : Bool) → is_lent k.tree k.cells ≡ a → ltb k.room k.least ≡ b → eqb k.string.number done ≡ c → A
        go true true c p q r = f (refuses no_room (omega arith) (omega arith) (serve_by k true true c p q r))
        go true false true p q r = g (serves p (serve_by k true false true p q r))
        go true false false p q r =
            f (refuses k.string.number (omega (arith, eqb-false k.string.number done r)) early.early (serve_by k true false false p q r))
        go false b c p q r = f (refuses unsound (omega arith) (omega arith) (serve_by k false b c p q r))

    pub opened : Open k → k.string.number ≡ done → Served
    opened o good = serves o.lent (serve_good k o good)

    -- Host functions are on or off.
    by_host : {A : Type 0} → (k.host ≡ true → A) → (k.host ≡ false → A) → A
    by_host {A} f g = go k.host refl
      where
        go : (b : Bool) → k.host ≡ b → A
        go true e = f e
        go false e = g e

    -- What a served call gives: its cells, as they are read, and what was written.
    pub unchanged : Served → (answer_to k).cells ≡ cs → cells' ≡ k.cells
    unchanged s e = s.gives.cells ∙ ap cells_form e ∙ sym (lent_form k.tree k.cells s.lent)

    cells_after_lem : Bytes k.cells → Served → cells_in cells' ≡ (answer_to k).cells
    cells_after_lem all s =
        ap cells_in s.gives.cells ∙ cells_in_form (answer_to k).cells
        (cells_width t (answer_to k).cells (cells_stay_sound t cs k.host bs (cells_sound_in k.tree k.cells all s.lent)))

    sent : Served → take size out' ≡ k.form (answer_to k).reply
    sent s = over_front (k.form (answer_to k).reply) out s.gives.len s.gives.bytes

    replied : Transport k → Served → (reply : List ℕ) → take size out' ≡ k.form reply → (answer_to k).reply ≡ reply
    replied transport s reply e =
        transport.injective (answer_to k).reply reply (sym (sent s) ∙ e)

    -- A code alone.
    code_given : Served → (b : Bool) (m c : ℕ) → k.host ≡ b → answer t cs b bs ≡ plain cs m (c ∷ [])
        → (n ≡ m) × (out' ≡ over (k.form (c ∷ [])) out)
    code_given s b m c on e =
        let is : answer_to k ≡ plain cs m (c ∷ []) = ap (λ x. answer t cs x bs) on ∙ e in
        (s.gives.number ∙ ap (λ a. a.number) is, s.gives.bytes ∙ ap (λ a. over (k.form a.reply) out) is)

    -- A code, to a number that document 01 has among rows 9 to 12; a refusal of rows 9 to 13, 15 or 16.
    coded : (m : ℕ) → number01 m ≤ no_reading → n ≡ m → out' ≡ over (k.form (refusal_code m ∷ [])) out → Refusal k n out out'
    coded m v e w = code (omega (arith, ap number01 e)) (w ∙ ap (λ i. over (k.form (refusal_code i ∷ [])) out) (sym e))

    refusal : disabled ≤ n → {a : Answer} → Answered t cs bs a → n ≡ a.number → out' ≡ over (k.form a.reply) out → Refusal k n out out'
    unfolding on_write failure_number number01
    refusal p (refused m u v x) e w = coded m (omega (arith, number_kept m (omega (arith, v)))) e w
    refusal p (no_node_case r x y z) e w = coded no_such_node (omega arith) e w
    refusal p (no_property_case r node x y z u) e w = coded no_such_property (omega arith) e w
    refusal p acknowledged e w = absurd (omega (arith, p))
    refusal p (node_described r node x) e w = absurd (omega (arith, p))
    refusal p (record-described r place x) e w = absurd (omega (arith, p))
    refusal p (word_read r place x) e w = absurd (omega (arith, p))
    refusal p (written r place x) e w =
        let no = unsaved (outcome_in k r place) (omega (arith, p, e)) in not_saved_case r place x (e ∙ no.0) no.1 w

    -- An accepted write, and any write that is answered with 0: host functions are on, and the answer is the write's.
    saved_cell : Bytes k.cells → Served → k.host ≡ true → (place value : ℕ) → SavesTo k place value
        → cell_at cells' place ≡ stored (cell_at k.cells place) value
    saved_cell all s on place value w =
        ap (λ x. cell_in x place) (cells_after_lem all s ∙ ap (λ b. (answer t cs b bs).cells) on)
        ∙ write_holds t cs bs place value (cells_sound_in k.tree k.cells all s.lent) w

    save_given : Transport k → Served → n ≡ done → (r : Request) (place save : ℕ) → WritesTo k r place → take size out' ≡ k.form (accepted_reply r save)
        → save_byte (outcome_in k r place) ≡ save
    unfolding on_write
    save_given transport s d r place save w e =
        save_byte_lem (outcome_in k r place) r save
        (ap (λ a. a.reply) (sym (done-written k h d r place w)) ∙ replied transport s (accepted_reply r save) e)

    kept : Transport k → Kept k out n size action cells' out'
    unfolding on_write action_of cells_after
    kept transport =
        record {
          rows_1_to_8 = λ p q. handled
              (λ r. (r.same_cells, r.same_output))
              (λ s. absurd (omega (arith, q, s.gives.number, late t cs bs (answered t cs bs k.host) (omega (arith, p, s.gives.number)))));
          rows_9_to_13 = λ p. handled
              (λ r. absurd (omega arith))
              (λ s. (
                unchanged s (refusal_keeps t cs k.host bs (λ z. omega (arith, p, s.gives.number, z))),
                refusal p (answered t cs bs k.host) s.gives.number s.gives.bytes,
              ));
          others = λ all place u. handled
              (λ r. ap (λ l. cell_at l place) r.same_cells)
              (λ s. ap (λ x. cell_in x place) (cells_after_lem all s) ∙ others_stay t cs k.host bs place u);
          writes = λ all o good on place value w.
              let s : Served = opened o good in (
                s.gives.number
                    ∙ ap (λ b. (answer t cs b bs).number) on
                    ∙ ap (λ a. a.number) (write_accepted t cs bs place value w)
                    ∙ saved_done cs place w.request,
                saved_cell all s on place value w,
              );
          save_bytes = λ d r place w. handled
              (λ x. absurd (omega arith))
              (λ s.
              let is : answer_to k ≡ on_write cs place r (outcome_in k r place) = done-written k h d r place w in
              accepted_reply_lem k.form (outcome_in k r place) r (sym (ap (λ a. a.number) is) ∙ sym s.gives.number ∙ d)
              (sent s ∙ ap (λ a. k.form a.reply) is));
          save_01 = λ all d r place w e. handled
              (λ x. absurd (omega arith))
              (λ s.
              let is : outcome_in k r place ≡ saved = save_saved (outcome_in k r place) (save_given transport s d r place save_done w e) in (
                saved_cell all s (done_enabled k h d) place r.value (record { request = r; writes = w; saves = is; sent = refl }),
                s.gives.acts ∙ ap (λ a. action_number a.action) (done-written k h d r place w ∙ ap (on_write cs place r) is),
              ));
          save_02 = λ d r place w e. handled
              (λ x. absurd (omega arith))
              (λ s.
              let is : outcome_in k r place ≡ taken = save_taken (outcome_in k r place) (save_given transport s d r place save_none w e) in
              let a : answer_to k ≡ on_write cs place r taken = done-written k h d r place w ∙ ap (on_write cs place r) is in
              (unchanged s (ap (λ x. x.cells) a), s.gives.acts ∙ ap (λ x. action_number x.action) a));
          open_probes = λ a. handled
              (λ r. (λ z. omega (arith, z), inl r.same_output))
              (λ s. by_host
              (λ on. let g = code_given s true no_reading NAK on (asked_58 k a) in (λ z. omega (arith, z, g.0), inr (inr g.1)))
              (λ off. let g = code_given s false disabled DISABLED off (host_off t cs bs) in (λ z. omega (arith, z, g.0), inr (inl g.1))));
          open_probes_58 = λ a o good on. code_given (opened o good) true no_reading NAK on (asked_58 k a);
          never_busy = λ xs e. handled
              (λ r. transport.nonempty _ xs (sym e ∙ r.nothing))
              (λ s. laws.never_busy t cs k.host bs (ap (λ l. get_or l 0 0) (replied transport s (_ ∷ xs) e)));
        }

-- By each transport: what `serve_data`, `serve_serial` and `serve_udp` promise keeps demands 1 and 2.
module _ (room : ℕ) (s : List ℕ) (host : Bool) (tree cells : List ℕ) where
  data-transport : Transport (data_call room s host tree cells)
  data-transport = record { injective = λ x y e. e; nonempty = λ b bs e. absurd (omega (arith, ap length e)) }

  serial_transport : (address : ℕ) → Transport (serial_call address room s host tree cells)
  unfolding frame wrap
  serial_transport address =
      record {
        injective = λ x y e. (frame_injective address address x y e).1;
        nonempty = λ b bs e. absurd (omega (arith, ap length e));
      }

  udp_transport : Transport (udp_call room s host tree cells)
  unfolding datagram
  udp_transport =
      record { injective = datagram_injective; nonempty = λ b bs e. absurd (omega (arith, ap length e)) }

  module _ {out cells' out' : List ℕ} {n size action missing : ℕ} where
    pub data-kept : Serves (serve_data room s host tree cells) out n size action missing cells' out'
        → Kept (data_call room s host tree cells) out n size action cells' out'
    data-kept h = kept (data_call room s host tree cells) (early_sized s) h data-transport

    pub serial_kept : (address : ℕ) → Serves (serve_serial address room s host tree cells) out n size action missing cells' out'
        → Kept (serial_call address room s host tree cells) out n size action cells' out'
    serial_kept address h = kept (serial_call address room s host tree cells) (early_frame address s) h (serial_transport address)

    pub udp_kept : Serves (serve_udp room s host tree cells) out n size action missing cells' out'
        → Kept (udp_call room s host tree cells) out n size action cells' out'
    udp_kept h = kept (udp_call room s host tree cells) (early_datagram s) h udp_transport
