pub mod ShopPieces
