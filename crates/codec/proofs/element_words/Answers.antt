-- `codec::element_words` meets its contract. Assumes nothing.
use Rattle.codec.proofs.Writing.{element_written}
use Rattle.codec.proofs.element_words.Goals as goal

pub returns : goal.returns
returns c =
    rw (c.known.ensures, c.unwrap_or.ensures, c.known-2.ensures, c.unwrap_or-2.ensures, c.known-3.ensures, c.unwrap_or-3.ensures, c.known-4.ensures, c.unwrap_or-4.ensures)
    (element_written c.args.e _ _ _ _ _ _ _ _ c.bits_of-bits.ensures c.address_words-peer.ensures c.address_words-prefix.ensures
    c.address_words-hop.ensures c.asn_number-origin_as.ensures c.origin_number-by.ensures c.widened-pref.ensures c.widened-med.ensures)
