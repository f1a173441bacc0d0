mod NoFault
mod Origins
mod Pieces
mod Drafting
