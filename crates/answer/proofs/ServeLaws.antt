-- Serving calls, row by row, and their replies in the form of each transport.
-- Assumes nothing.
use Prim.Native.Nat.{ℕ, ◌+◌, ◌-◌, ◌≤◌}
use native.Mathlib.Omega.{arith}
use native.Mathlib.Nat.{zero-add}
use mathlib.Core.Path.{◌≡◌, refl, sym, ap, subst, ◌∙◌}
use mathlib.Core.Bool.{Bool, true, false, cond}
use mathlib.Core.List.{List, [], ◌∷◌}
use borrow.Rule.Slice.PartMut.{put_mid}
use borrow.Author.Tests.{ltb-false, le-ltb, eq-eqb, ne_eqb}
use lib.ListN.{length, take, drop, length-append, length-take}
use lib.Seq.{length-take-le}
use lib.Dec.{eqb, ltb}
use Rattle.protocol.specs.Numbers.{done, unsound, no_room, room_serial}
use Rattle.protocol.specs.Frame.{Sized, frame, datagram, if_room, write_frame}
use Rattle.protocol.specs.Buffer.{fitting, Put, Emits}
use Rattle.protocol.specs.Request.{Asked, read_request}
use Rattle.protocol.specs.Tree.{Tree, Cell}
use Rattle.protocol.specs.Answer.{Answer, answer_by, answer}
use Rattle.protocol.proofs.BufferLaws.{over_put, over_nil, put_fits, put_room, part_back}
use Rattle.protocol.proofs.AnswerLaws.{reply_sized}
use Rattle.datagram.proofs.UdpLaws.{emits_datagram}
use Rattle.compose.proofs.WriteLaws.{put_front, emits_formed}
use Rattle.tree.specs.Seen.{seen}
use Rattle.cells.specs.Cells.{cells_in}
use Rattle.cells.specs.Lent.{is_lent, lent_number}
use Rattle.cells.proofs.CellLaws.{lent_done, lent_refused, refused_unsound}
use Rattle.answer.specs.Steps.{answer_asked, Rejects, Answers}
use Rattle.answer.proofs.AnswerLaws.{lent_sound}
use Rattle.answer.specs.Serve.{Open, rejected, in_form, serve, Call, serving, Serves}

-- What is read, answered, is its data answered.
answered_data : (t : Tree) (cs : List Cell) (host : Bool) (bs : List ℕ) → answer_asked t cs host (read_request bs) ≡ answer t cs host bs
unfolding answer_asked answer_by
answered_data t cs true bs = refl
answered_data t cs false bs = refl

-- Rows 1 and 8 by the check and the room.
module _ (tree cells : List ℕ) (room least : ℕ) {n : ℕ} (e : n ≡ lent_number tree cells) where
  pub row_unsound : (n ≡ done → ⊥) → n ≡ cond (is_lent tree cells) (cond (ltb room least) no_room done) unsound
  row_unsound u =
      refused_unsound tree cells e u
      ∙ sym (ap (λ t. cond t (cond (ltb room least) no_room done) unsound) (lent_refused tree cells e u))

  pub row_lent : n ≡ done → {u : Bool} → ltb room least ≡ u
      → cond u no_room done ≡ cond (is_lent tree cells) (cond (ltb room least) no_room done) unsound
  row_lent d f =
      ap (λ u. cond u no_room done) (sym f)
      ∙ sym (ap (λ t. cond t (cond (ltb room least) no_room done) unsound) (lent_done tree cells e d))

-- Rows 1 and 8 of a call, and the answer to what it received.
abbrev pub lent_row : Call → ℕ
lent_row k = cond (is_lent k.tree k.cells) (cond (ltb k.room k.least) no_room done) unsound

abbrev pub answer_to : Call → Answer
answer_to k = answer (seen k.tree) (cells_in k.cells) k.host k.string.payload

-- Its rows.
module _ (k : Call) where
  pub serve_by : (t u v : Bool) → is_lent k.tree k.cells ≡ t → ltb k.room k.least ≡ u → eqb k.string.number done ≡ v
      → serving k
      ≡ cond t
      (cond u (rejected k.cells no_room) (cond v (in_form k.form (answer_to k)) (rejected k.cells k.string.number)))
      (rejected k.cells unsound)
  unfolding serve
  serve_by t u v e f g = rw (e, f, g)

  -- Nothing written, no cell changed.
  gives_row : {n m given len action missing : ℕ} → serving k ≡ rejected k.cells m → n ≡ m → Rejects n given len action missing
      → (out : List ℕ) → Serves (serving k) out given len action missing k.cells out
  gives_row {given = given} {len = len} {action = action} {missing = missing} e f away out =
      subst (λ s. Serves s out given len action missing k.cells out) (sym e)
      (record { number = away.0 ∙ f; len = away.1.0; acts = away.1.1.0; tells = away.1.1.1; cells = refl; bytes = sym (over_nil out) })

  -- Rows 1 and 8.
  pub serve_unlent : {n given len action missing : ℕ} → n ≡ lent_row k → (n ≡ done → ⊥) → Rejects n given len action missing
      → (out : List ℕ) → Serves (serving k) out given len action missing k.cells out
  serve_unlent {n} {given} {len} {action} {missing} e u away out = go (is_lent k.tree k.cells) (ltb k.room k.least) refl refl e
    where
      go : (t v : Bool) → is_lent k.tree k.cells ≡ t → ltb k.room k.least ≡ v → n ≡ cond t (cond v no_room done) unsound
          → Serves (serving k) out given len action missing k.cells out
      go true true p q f = gives_row (serve_by true true (eqb k.string.number done) p q refl) f away out
      go true false p q f = absurd (u f)
      go false v p q f = gives_row (serve_by false v (eqb k.string.number done) p q refl) f away out

  pub opened : {n : ℕ} → n ≡ lent_row k → n ≡ done → Open k
  opened {n} e d = go (is_lent k.tree k.cells) (ltb k.room k.least) refl refl e
    where
      go : (t v : Bool) → is_lent k.tree k.cells ≡ t → ltb k.room k.least ≡ v → n ≡ cond t (cond v no_room done) unsound → Open k
      go true true p q f = absurd (omega (arith, f, d))
      go true false p q f = record { lent = p; roomy = ltb-false k.room k.least q }
      go false v p q f = absurd (omega (arith, f, d))

  -- The rows of what was received, and the answer.
  module _ (o : Open k) where
    pub serve-refused : {n given len action missing : ℕ} → n ≡ k.string.number → (k.string.number ≡ done → ⊥)
        → Rejects n given len action missing → (out : List ℕ) → Serves (serving k) out given len action missing k.cells out
    serve-refused e u away out =
        gives_row
        (serve_by true false false o.lent (le-ltb k.room k.least o.roomy) (ne_eqb k.string.number done u)) e away out

    pub serve_good : k.string.number ≡ done → serving k ≡ in_form k.form (answer_to k)
    serve_good d = serve_by true false true o.lent (le-ltb k.room k.least o.roomy) (eq-eqb k.string.number done d)

    pub serve_answered : k.string.number ≡ done → {out cells' out' : List ℕ} {n size action missing : ℕ}
        → Serves (in_form k.form (answer_to k)) out n size action missing cells' out' → Serves (serving k) out n size action missing cells' out'
    serve_answered d {out} {cells'} {out'} {n} {size} {action} {missing} s =
        subst (λ w. Serves w out n size action missing cells' out') (sym (serve_good d)) s

    -- Every reply can be framed.
    pub replies : Sized (answer_to k).reply
    replies = reply_sized (seen k.tree) (lent_sound k.tree k.cells o.lent) (cells_in k.cells) k.host k.string.payload

  pub answered_as : {x : Asked} → x ≡ read_request k.string.payload → {out cells' out' : List ℕ} {n size action missing : ℕ}
      → Answers (answer_asked (seen k.tree) (cells_in k.cells) k.host x) out n size action missing cells' out'
      → Answers (answer_to k) out n size action missing cells' out'
  answered_as e {out} {cells'} {out'} {n} {size} {action} {missing} h =
      subst (λ a. Answers a out n size action missing cells' out')
      (ap (answer_asked (seen k.tree) (cells_in k.cells) k.host) e
      ∙ answered_data (seen k.tree) (cells_in k.cells) k.host k.string.payload)
      h

-- An answer in the form of its transport.
module _ (a : Answer) {n size action missing : ℕ} {cells' out out' : List ℕ} (h : Answers a out n size action missing cells' out') where
  pub as_data : Serves (in_form (λ reply. reply) a) out n size action missing cells' out'
  as_data =
      record {
        number = h.number;
        len = h.reply.next ∙ zero-add (length a.reply);
        acts = h.acts;
        tells = h.tells;
        cells = h.cells;
        bytes = h.reply.bytes ∙ over_put a.reply out;
      }

  -- The frame of a reply is written.
  module _ (sized : Sized a.reply) (address : ℕ) {lent new : List ℕ} {m len : ℕ} (room : room_serial ≤ length lent)
      (e : Emits (if_room room_serial (length lent) (write_frame address (take size out'))) lent m len new) where
    pub serial_written : m ≡ done
    serial_written = (emits_formed (frame address) room_serial a.reply sized (put_front {ys = a.reply} h.reply) room e).number

    pub as_serial : Serves (in_form (frame address) a) lent n len action missing cells' new
    as_serial =
        let w = emits_formed (frame address) room_serial a.reply sized (put_front {ys = a.reply} h.reply) room e in
        record { number = h.number; len = w.len; acts = h.acts; tells = h.tells; cells = h.cells; bytes = w.bytes }

-- The reply behind its four zero bytes.
abbrev pub zeros : List ℕ
zeros = 0 ∷ 0 ∷ 0 ∷ 0 ∷ []

pub as_udp : (a : Answer) {n size action missing front : ℕ} {cells' lent part new : List ℕ} → 4 ≤ length lent
    → Answers a (take (length lent - 4) (drop 4 lent)) n size action missing cells' part
    → Put 0 (fitting 0 zeros (put_mid 4 (length lent - 4) lent part)) (put_mid 4 (length lent - 4) lent part) front new
    → Serves (in_form datagram a) lent n (front + size) action missing cells' new
as_udp a {size = size} {front = front} {lent = lent} {part = part} {new = new} four h p =
    let mid : List ℕ = put_mid 4 (length lent - 4) lent part in
    let long : 4 ≤ length mid =
    omega (arith, ap length (part_back 4 lent part four), length-append (take 4 lent) part, length-take-le 4 lent four) in
    let whole : Put 0 zeros mid front new = put_fits (omega (arith, long)) p in
    let w = emits_datagram a.reply lent four h.reply (whole.bytes ∙ over_put zeros mid) in
    record {
      number = h.number;
      len = ap (λ k. k + size) whole.next ∙ w.len;
      acts = h.acts;
      tells = h.tells;
      cells = h.cells;
      bytes = w.bytes;
    }

pub front_short : (mid : List ℕ) {front : ℕ} {new : List ℕ} → Put 0 (fitting 0 zeros mid) mid front new → front ≤ 4
front_short mid p = omega (arith, p.next, length-take (length mid - 0) zeros)

pub reply_short : (a : Answer) → Sized a.reply → {out cells' out' : List ℕ} {n size action missing : ℕ} → Answers a out n size action missing cells' out' → size ≤ 256
reply_short a sized h = omega (arith, h.reply.next, sized.most)

-- The reply of an answer lies within its 256 bytes.
pub reply_within : (a : Answer) → Sized a.reply → {out cells' out' : List ℕ} {n size action missing : ℕ} → 256 ≤ length out
    → Answers a out n size action missing cells' out' → size ≤ length out'
reply_within a sized room h = omega (arith, put_room h.reply 0 (omega (arith, sized.most, room)))
